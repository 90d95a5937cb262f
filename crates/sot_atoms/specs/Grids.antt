-- Grids: the hull of a region of one to four sides, cut into atoms on four axes. The first axes
-- have one place alone where the hull has fewer sides.
use Rattle.std.specs.Prelude.{◌≡◌, ℕ, ◌+◌, ◌-◌, ◌<◌, ◌≤◌, ◌==◌, nat_lt, List, [], ◌∷◌, length}
use Rattle.std.specs.Prelude.{◌^◌}
use Rattle.std.specs.Int.{int_max, int_min}
use Rattle.std.specs.Prelude.{if◌then◌else◌, ℤ, ◌<ℤ◌, ◌⊎◌, Option, MatchOption}
use Rattle.sot_lists.specs.Places.{At}
use Rattle.sot_box.specs.Sides.{Side}
use Rattle.sot_box.specs.Sweep.{coordinate}
use Rattle.sot_atoms.specs.declared.axis.Axis.{Axis}
use Rattle.sot_atoms.specs.declared.block.Stretch.{Stretch}
use Rattle.sot_atoms.specs.Places.{IsAxis, IsTight, HoldsNumber, start_of, end_of}
use Rattle.sot_atoms.specs.Blocks.{atom_count}

-- what contracts see of a grid: how many sides the hull has, which of them runs fastest, and how
-- each axis is cut
pub record Cut : Type 0 where
  pub width : ℕ
  pub last : ℕ
  pub axes : List Axis

-- which side of the hull lies on axis k: one of them lies on the last axis, the others come before
-- in order
abbrev pub side_at : ℕ → ℕ → ℕ → ℕ
side_at width last k =
    if k == 3 then last
    else (if nat_lt (k + width - 4) last then k + width - 4 else k + width - 4 + 1)

-- axis k, cut into places, of a hull of so many sides: a side of the hull lies on it, or it is one
-- of the first and has one place
abbrev pub IsGridAxis : ℕ → ℕ → ℕ → Axis → Type 0
IsGridAxis width last k x =
    IsAxis x × (x.side < width)
    × (4 ≤ k + width → (x.side ≡ side_at width last k) × IsTight x)
    × (k + width < 4 → x.size ≡ 1)

-- there are four axes, each cut into places, and at most 2^25 atoms
pub record IsCut (width last : ℕ) (axes : List Axis) : Type 0 where
  pub some_side : 0 < width
  pub few_sides : width ≤ 4
  pub last_is : last < width
  pub four : length axes ≡ 4
  pub each : (k : ℕ) (x : Axis) → At axes k x → IsGridAxis width last k x
  pub few_atoms : atom_count axes ≤ 33554432

-- an interval has a number that is not on the axis
abbrev pub LeavesAxis : Axis → Side → Type 0
LeavesAxis axis r = (r.lo <ℤ axis.lo) ⊎ (axis.hi <ℤ r.hi)

-- a stretch is from the place of an interval's first number to that of its last
pub record MeetsPlaces (axis : Axis) (r : Side) (s : Stretch) : Type 0 where
  pub first : HoldsNumber axis s.from r.lo
  pub last : HoldsNumber axis s.to r.hi

-- the places on axis k that a box meets, or none where it leaves the axis
abbrev pub MeetsAxis : List Axis → List Side → ℕ → Option Stretch → Type 0
MeetsAxis axes box k result =
    (x : Axis) × (r : Side) × At axes k x × At box x.side r
    × MatchOption result (LeavesAxis x r) (λ s. MeetsPlaces x r s)

-- a box has a point that is outside of some axis
abbrev pub LeavesHull : List Axis → List Side → Type 0
LeavesHull axes box =
    (k : ℕ) × (x : Axis) × (r : Side) × At axes k x × At box x.side r × LeavesAxis x r

-- no number of an interval is on the axis
abbrev pub IsOff : Axis → Side → Type 0
IsOff axis r = (r.hi <ℤ axis.lo) ⊎ (axis.hi <ℤ r.lo)

-- the numbers of an interval that are on the axis, where there are some
abbrev pub on_axis : Axis → Side → Side
on_axis axis r = record {
  lo = int_max r.lo axis.lo;
  hi = int_min r.hi axis.hi;
}

-- the places on axis k that a box meets, or none where it is off the axis
abbrev pub ClipsAxis : List Axis → List Side → ℕ → Option Stretch → Type 0
ClipsAxis axes box k result =
    (x : Axis) × (r : Side) × At axes k x × At box x.side r
    × MatchOption result (IsOff x r) (λ s. MeetsPlaces x (on_axis x r) s)

-- no point of a box is in the hull
abbrev pub IsOffHull : List Axis → List Side → Type 0
IsOffHull axes box =
    (k : ℕ) × (x : Axis) × (r : Side) × At axes k x × At box x.side r × IsOff x r

-- a block has on each axis the places that a box meets as far as it is on the axis
abbrev pub ClipsBlock : List Axis → List Side → List Stretch → Type 0
ClipsBlock axes box block =
    (k : ℕ) (x : Axis) (r : Side) (s : Stretch) → At axes k x → At box x.side r → At block k s
    → MeetsPlaces x (on_axis x r) s

-- a block has on each axis the places that a box meets
abbrev pub MeetsBlock : List Axis → List Side → List Stretch → Type 0
MeetsBlock axes box block =
    (k : ℕ) (x : Axis) (r : Side) (s : Stretch) → At axes k x → At box x.side r → At block k s
    → MeetsPlaces x r s

-- an atom holds a point: on each axis its place holds the point's coordinate there
abbrev pub HoldsPoint : List Axis → List ℕ → List ℤ → Type 0
HoldsPoint [] [] s = Unit {0}
HoldsPoint (x ∷ xs) (a ∷ rest) s = HoldsNumber x a (coordinate s x.side) × HoldsPoint xs rest s
HoldsPoint [] (a ∷ rest) s = ⊥
HoldsPoint (x ∷ xs) [] s = ⊥

-- each atom is one point: the grain of each side is 1
abbrev pub IsFinest : Cut → Type 0
IsFinest grid = (k : ℕ) (x : Axis) → 4 ≤ k + grid.width → At grid.axes k x → x.shift ≡ 0

-- an interval has the numbers of a stretch of places
abbrev pub HasNumbers : Axis → Stretch → Side → Type 0
HasNumbers x s r = (r.lo ≡ start_of x s.from) × (r.hi ≡ end_of x s.to)

-- an interval has the numbers of a block on a side
abbrev pub AreNumbersOn : Cut → List Stretch → ℕ → Side → Type 0
AreNumbersOn grid block side r =
    (k : ℕ) (x : Axis) (s : Stretch) → 4 ≤ k + grid.width → At grid.axes k x → At block k s
    → x.side ≡ side → s.from ≤ s.to → s.to < x.size → HasNumbers x s r

-- a box has on each side the numbers of a block's stretch there
abbrev pub IsAreaOf : Cut → List Stretch → List Side → Type 0
IsAreaOf grid block box =
    (k : ℕ) (x : Axis) (s : Stretch) (r : Side) → 4 ≤ k + grid.width → At grid.axes k x
    → At block k s → At box x.side r → HasNumbers x s r

-- an axis ends where the side of a hull does that lies on it
abbrev pub HasEnds : Axis → List Side → Type 0
HasEnds x hull = (r : Side) → At hull x.side r → (x.lo ≡ r.lo) × (x.hi ≡ r.hi)

-- a grid is one of this hull
abbrev pub CutsHull : Cut → List Side → Type 0
CutsHull grid hull = (k : ℕ) (x : Axis) → At grid.axes k x → HasEnds x hull

-- the grain of a side
abbrev pub IsGrainOf : Cut → ℕ → ℕ → Type 0
IsGrainOf grid side grain =
    (k : ℕ) (x : Axis) → 4 ≤ k + grid.width → At grid.axes k x → x.side ≡ side
    → grain ≡ 2 ^ x.shift

-- an axis is another one with a wider grain
pub record IsCoarser (x y : Axis) : Type 0 where
  pub cut : IsAxis y
  pub side : y.side ≡ x.side
  pub tight : IsTight x → IsTight y
  pub one : x.size ≡ 1 → y.size ≡ 1
