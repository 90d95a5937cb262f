-- Boxes that are cut in two.
use Rattle.std.specs.Prelude.{◌≡◌, ℕ, ◌<◌, ℤ, pos, ◌+ℤ◌, ◌-ℤ◌, ◌≤ℤ◌, ◌<ℤ◌, List, slice_set}
use Rattle.sot_box.specs.Sides.{Side}
use Rattle.sot_lists.specs.Places.{At}

-- each interval of the box holds one number
abbrev pub IsOnePoint : List Side → Type 0
IsOnePoint box = (i : ℕ) (r : Side) → At box i r → r.lo ≡ r.hi

-- how far the ends of an interval are apart
abbrev pub extent : Side → ℤ
extent r = r.hi -ℤ r.lo

-- r, on axis k, is the widest interval of the box, of equal ones the first
pub record IsWidest (box : List Side) (k : ℕ) (r : Side) : Type 0 where
  pub is : At box k r
  pub widest : (i : ℕ) (s : Side) → At box i s → extent s ≤ℤ extent r
  pub first : (i : ℕ) (s : Side) → i < k → At box i s → extent s <ℤ extent r

-- m is half of the sum of the ends, rounded down
pub record IsMiddle (r : Side) (m : ℤ) : Type 0 where
  pub at_most : (m +ℤ m) ≤ℤ (r.lo +ℤ r.hi)
  pub at_least : (r.lo +ℤ r.hi) ≤ℤ ((m +ℤ m) +ℤ pos 1)

-- the low and the high half of a box of more than one point: its widest interval, of equal ones the
-- first, ends at its middle, and begins behind it
pub record AreHalves (box low high : List Side) : Type 0 where
  pub axis : ℕ
  pub side : Side
  pub middle : ℤ
  pub widest : IsWidest box axis side
  pub apart : side.lo <ℤ side.hi
  pub half : IsMiddle side middle
  pub low_is : low ≡ slice_set box axis (record { lo = side.lo; hi = middle })
  pub high_is : high ≡ slice_set box axis (record { lo = middle +ℤ pos 1; hi = side.hi })
