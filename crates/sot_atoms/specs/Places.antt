-- Axes that are cut into places of one grain, which count from 0.
use Rattle.std.specs.Prelude.{ℕ, ◌+◌, ◌-◌, ◌*◌, ◌^◌, ◌<◌, ◌≤◌, nat_lt, ℤ, pos, ◌+ℤ◌, ◌-ℤ◌}
use Rattle.std.specs.Prelude.{◌≤ℤ◌, ◌<ℤ◌}
use Rattle.std.specs.Prelude.{if◌then◌else◌}
use Rattle.sot_atoms.specs.declared.axis.Axis.{Axis}

-- the first number of a place
abbrev pub start_of : Axis → ℕ → ℤ
start_of axis a = axis.lo +ℤ pos (a * 2 ^ axis.shift)

-- the last number of a place: that before the next place or, of the last place, the axis's end
abbrev pub end_of : Axis → ℕ → ℤ
end_of axis a = if nat_lt (a + 1) axis.size then start_of axis (a + 1) -ℤ pos 1 else axis.hi

-- a place holds a number
pub record HoldsNumber (axis : Axis) (a : ℕ) (x : ℤ) : Type 0 where
  pub there : a < axis.size
  pub from : start_of axis a ≤ℤ x
  pub to : x ≤ℤ end_of axis a

-- an axis that has a number is cut into places of which none is empty
pub record IsAxis (axis : Axis) : Type 0 where
  pub ordered : axis.lo ≤ℤ axis.hi
  pub some_place : 0 < axis.size
  pub grain : axis.shift < 64
  pub full : start_of axis (axis.size - 1) ≤ℤ axis.hi

-- the last place is no longer than the others, on an axis of few enough places for a grid
abbrev pub IsTight : Axis → Type 0
IsTight axis = axis.size ≤ 33554432 → axis.hi <ℤ start_of axis axis.size
