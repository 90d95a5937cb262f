-- Lists of one to four parts, kept in four slots.
use Rattle.std.specs.Prelude.{◌≡◌, ℕ, ◌-◌, ◌<◌, ◌≤◌, ℤ, pos, List, ◌++◌, length, take, drop}
use Rattle.std.specs.Prelude.{replicate}
use Rattle.std.proofs.Common.{arith, take-append-drop, length-take-le}
use Rattle.sot_box.specs.declared.point.Point.TheInside as point

abbrev pub coordinates : point.Inside → List ℤ
coordinates p = take p.width p.at

-- the slots behind the width hold 0
abbrev pub IsPoint : point.Inside → Type 0
IsPoint p =
    (0 < p.width) × (p.width ≤ 4) × (length p.at ≡ 4)
    × (drop p.width p.at ≡ replicate (4 - p.width) (pos 0))

abbrev pub point_of : List ℤ → point.Inside
point_of xs = record { width = length xs; at = xs ++ replicate (4 - length xs) (pos 0) }

pub width-taken : {A : Type 0} (n : ℕ) (xs : List A) → length xs ≡ 4 → n ≤ 4
    → length (take n xs) ≡ n
width-taken n xs four below = length-take-le n xs (omega arith)

pub slots-back : {A : Type 0} (n : ℕ) (xs : List A) (x : A) → length xs ≡ 4 → n ≤ 4
    → drop n xs ≡ replicate (4 - n) x
    → take n xs ++ replicate (4 - length (take n xs)) x ≡ xs
slots-back n xs x four below rest = rw (width-taken n xs four below, ← rest) (take-append-drop n xs)

pub point_of-coordinates : (p : point.Inside) → IsPoint p → point_of (coordinates p) ≡ p
point_of-coordinates p h i = record {
  width = width-taken p.width p.at h.2 h.1 i;
  at = slots-back p.width p.at (pos 0) h.2 h.1 h.3 i;
}
