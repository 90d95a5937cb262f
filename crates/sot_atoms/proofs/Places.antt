-- Places of an axis and the numbers that they hold.
use Rattle.std.proofs.Common.{◌≡◌, ℕ, ◌+◌, ◌-◌, ◌*◌, ◌/◌, ◌%◌, ◌^◌, ◌<◌, ◌≤◌, min, Bool, true, false, ℤ, pos, ◌-ℤ◌, ◌≤ℤ◌, ltb, cond, refl, arith}
use Rattle.std.proofs.lemmas.Int.{ints}
use Rattle.std.proofs.lemmas.Nat.{pow_pos, div-add-mod', mul-le, mod_below}
use Rattle.std.proofs.lemmas.Bool.Decides.{nat_tests}
use Rattle.sot_atoms.specs.declared.axis.Axis.{Axis}
use Rattle.sot_atoms.specs.Places.{IsAxis, IsTight, HoldsNumber, start_of, end_of}

-- a number is at most the end of a place, where it is before the next place and on the axis
pub below_end : (axis : Axis) (a : ℕ) (x : ℤ) → (a + 1 < axis.size → x ≤ℤ (start_of axis (a + 1) -ℤ pos 1)) → x ≤ℤ axis.hi → x ≤ℤ end_of axis a
below_end axis a x next last = cases (ltb (a + 1) axis.size) refl
  where
    cases : (b : Bool) → ltb (a + 1) axis.size ≡ b → x ≤ℤ cond b (start_of axis (a + 1) -ℤ pos 1) axis.hi
    cases true e = next (grind (arith, nat_tests))
    cases false e = last

-- the first number of a place is not after that of a later one
pub start_order : (axis : Axis) (a b : ℕ) → a ≤ b → start_of axis a ≤ℤ start_of axis b
start_order axis a b le = (let m = mul-le a (2 ^ axis.shift) b (2 ^ axis.shift) le (omega arith) in omega (arith, ints))

pub start_apart : (axis : Axis) (a b : ℕ) → a < b → start_of axis a ≤ℤ (start_of axis b -ℤ pos 1)
start_apart axis a b lt =
    let d = pow_pos axis.shift in
    let m : (a + 1) * 2 ^ axis.shift ≤ b * 2 ^ axis.shift = mul-le (a + 1) (2 ^ axis.shift) b (2 ^ axis.shift) (omega arith) (omega arith) in
    let s : (a + 1) * 2 ^ axis.shift ≡ a * 2 ^ axis.shift + 2 ^ axis.shift = grind arith in
    omega (arith, ints)

pub stretch_ordered : (axis : Axis) (a b : ℕ) → IsAxis axis → a ≤ b → b < axis.size → start_of axis a ≤ℤ end_of axis b
stretch_ordered axis a b cut le lt =
    below_end axis b (start_of axis a) (λ next. start_apart axis a (b + 1) (omega arith))
    (let o = start_order axis a (axis.size - 1) (omega arith) in let f = cut.full in omega (arith, ints))

pub holds_number : (axis : Axis) (x : ℤ) (off a : ℕ) → IsAxis axis → pos off ≡ x -ℤ axis.lo → x ≤ℤ axis.hi → a ≡ min (off / 2 ^ axis.shift) (axis.size - 1)
    → HoldsNumber axis a x
holds_number axis x off a cut is high at =
    let d = pow_pos axis.shift in
    let split = div-add-mod' off (2 ^ axis.shift) in
    let rest : off % 2 ^ axis.shift < 2 ^ axis.shift = mod_below off (2 ^ axis.shift) d in
    let some = cut.some_place in
    let le : a ≤ off / 2 ^ axis.shift = omega arith in
    let m = mul-le a (2 ^ axis.shift) (off / 2 ^ axis.shift) (2 ^ axis.shift) le (omega arith) in
    let s : (off / 2 ^ axis.shift + 1) * 2 ^ axis.shift ≡ off / 2 ^ axis.shift * 2 ^ axis.shift + 2 ^ axis.shift = grind arith in record {
      there = omega arith;
      from = omega (arith, ints);
      to = below_end axis a x (λ next. (let e : a ≡ off / 2 ^ axis.shift = omega arith in rw e (omega (arith, ints)))) high;
    }

-- an axis that is cut into as many places as its numbers need is tight
pub cut_tight : (x : Axis) (off : ℕ) → pos off ≡ x.hi -ℤ x.lo → (x.size ≤ 33554432 → x.size ≡ off / 2 ^ x.shift + 1) → IsTight x
cut_tight x off is size few =
    let split = div-add-mod' off (2 ^ x.shift) in
    let rest : off % 2 ^ x.shift < 2 ^ x.shift = mod_below off (2 ^ x.shift) (pow_pos x.shift) in
    let e = size few in
    let s : (off / 2 ^ x.shift + 1) * 2 ^ x.shift ≡ off / 2 ^ x.shift * 2 ^ x.shift + 2 ^ x.shift = grind arith in
    rw e (omega (arith, ints))
