-- What is found is one thing, and what it is good for.
use Rattle.std.specs.Prelude.{◌≡◌, ℕ, ℤ, ◌⊎◌, List, ◌++◌}
use Rattle.sot_box.specs.Sides.{Side}
use Rattle.sot_box.specs.Regions.{IsInRegion}
use Rattle.sot_lists.specs.Places.{At}
use Rattle.sot_certify.specs.Findings.{Finding, Whole, Failing, Begun}

-- the first list begins with the second
abbrev pub BeginsWith : List (List Side) → List (List Side) → Type 0
BeginsWith cells first = (rest : List (List Side)) × (cells ≡ first ++ rest)

-- two findings that can be true of the same boxes: they are one, but for what one of them leaves
-- open
abbrev pub Agree : Finding → Finding → Type 0
Agree (Whole a) (Whole b) = a ≡ b
Agree (Whole a) (Failing b t) = ⊥
Agree (Whole a) (Begun b) = BeginsWith a b
Agree (Failing a s) (Whole b) = ⊥
Agree (Failing a s) (Failing b t) = (a ≡ b) × (s ≡ t)
Agree (Failing a s) (Begun b) = BeginsWith a b
Agree (Begun a) (Whole b) = BeginsWith b a
Agree (Begun a) (Failing b t) = BeginsWith b a
Agree (Begun a) (Begun b) = BeginsWith a b ⊎ BeginsWith b a

-- a list of all cells holds just the points of the boxes, and each cell is good
pub record IsCover (Good : List Side → Type 0) (boxes cells : List (List Side)) : Type 0 where
  pub holds : (s : List ℤ) → IsInRegion boxes s → IsInRegion cells s
  pub inside : (s : List ℤ) → IsInRegion cells s → IsInRegion boxes s
  pub good : (i : ℕ) (cell : List Side) → At cells i cell → Good cell
