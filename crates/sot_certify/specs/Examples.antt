-- Worked cuts and findings.
use Rattle.std.specs.Prelude.{ℕ, ℤ, pos, negsuc, ◌≤ℤ◌, List, [], ◌∷◌}
use Rattle.sot_box.specs.Sides.{Side}
use Rattle.sot_lists.specs.Places.{At}
use Rattle.sot_certify.specs.Cuts.{AreHalves, extent}
use Rattle.sot_certify.specs.Findings.{Whole, Failing, BisectsEach}

-- the interval of these ends
abbrev pub from_to : ℤ → ℤ → Side
from_to lo hi = record { lo = lo; hi = hi }

-- -3..2 is cut behind -1; of two equal axes the first is cut; a wider second axis goes before the
-- first
abbrev pub CutsAreAsStated : Type 0
CutsAreAsStated =
    AreHalves (from_to (negsuc 2) (pos 2) ∷ []) (from_to (negsuc 2) (negsuc 0) ∷ [])
    (from_to (pos 0) (pos 2) ∷ [])
    × AreHalves (from_to (pos 0) (pos 3) ∷ from_to (pos 5) (pos 8) ∷ [])
    (from_to (pos 0) (pos 1) ∷ from_to (pos 5) (pos 8) ∷ [])
    (from_to (pos 2) (pos 3) ∷ from_to (pos 5) (pos 8) ∷ [])
    × AreHalves (from_to (pos 0) (pos 1) ∷ from_to (pos 5) (pos 8) ∷ [])
    (from_to (pos 0) (pos 1) ∷ from_to (pos 5) (pos 6) ∷ [])
    (from_to (pos 0) (pos 1) ∷ from_to (pos 7) (pos 8) ∷ [])

-- each interval of the box holds two numbers at the most
abbrev pub IsNarrow : List Side → Type 0
IsNarrow box = (i : ℕ) (r : Side) → At box i r → extent r ≤ℤ pos 1

-- each interval of the box ends at 0 at the latest
abbrev pub EndsBy0 : List Side → Type 0
EndsBy0 box = (i : ℕ) (r : Side) → At box i r → r.hi ≤ℤ pos 0

-- the cells of a low half come before those of the high one, and those of a box before those of the
-- next: 0..3 and 8..8 fall into 0..1, 2..3 and 8..8 where cells are narrow. The first failing point
-- stops all: where cells end by 0, 0..1 and 5..5 give the cell 0..0 and the point 1, and 5 is not
-- told
abbrev pub FindingsAreAsStated : Type 0
FindingsAreAsStated =
    BisectsEach IsNarrow ((from_to (pos 0) (pos 3) ∷ []) ∷ (from_to (pos 8) (pos 8) ∷ []) ∷ [])
    (Whole ((from_to (pos 0) (pos 1) ∷ []) ∷ (from_to (pos 2) (pos 3) ∷ []) ∷
    (from_to (pos 8) (pos 8) ∷ []) ∷ []))
    × BisectsEach EndsBy0 ((from_to (pos 0) (pos 1) ∷ []) ∷ (from_to (pos 5) (pos 5) ∷ []) ∷ [])
    (Failing ((from_to (pos 0) (pos 0) ∷ []) ∷ []) (pos 1 ∷ []))
