-- What is found where boxes are halved until each of them is good.
use Rattle.std.specs.Prelude.{◌≡◌, ℕ, zero, suc, ℤ, ◌⊎◌, List, [], ◌∷◌, ◌++◌}
use Rattle.sot_box.specs.Sides.{Side}
use Rattle.sot_box.specs.Boxes.{lows}
use Rattle.sot_certify.specs.Cuts.{IsOnePoint, AreHalves}

-- all cells; or the cells before a point that is not good; or the first cells, of which it is open
-- what comes after them
pub data Finding : Type 0 where
  Whole : (cells : List (List Side)) → Finding
  Failing : (cells : List (List Side)) (point : List ℤ) → Finding
  Begun : (cells : List (List Side)) → Finding

-- what is found, with these cells before its own
abbrev pub behind : List (List Side) → Finding → Finding
behind cells (Whole more) = Whole (cells ++ more)
behind cells (Failing more point) = Failing (cells ++ more) point
behind cells (Begun more) = Begun (cells ++ more)

-- what is found in one part and then in another: all stops at the first point that is not good, and
-- where it is open what comes next
abbrev pub followed : Finding → Finding → Finding
followed (Whole cells) next = behind cells next
followed (Failing cells point) next = Failing cells point
followed (Begun cells) next = Begun cells

-- what is found in a box by at most n cuts, one in another: nothing yet; a good box alone; a point
-- that is not good; or what is found in the low half, followed by what is found in the high half
abbrev pub BisectsWithin : (List Side → Type 0) → ℕ → List Side → Finding → Type 0
BisectsWithin Good zero box found = found ≡ Begun []
BisectsWithin Good (suc n) box found =
    (found ≡ Begun [])
    ⊎ (Good box × (found ≡ Whole (box ∷ [])))
    ⊎ ((Good box → ⊥) × IsOnePoint box × (found ≡ Failing [] (lows box)))
    ⊎ ((Good box → ⊥) × (low high : List Side) × AreHalves box low high
    × (a b : Finding) × BisectsWithin Good n low a × BisectsWithin Good n high b
    × (found ≡ followed a b))

-- what is found in a box
abbrev pub Bisects : (List Side → Type 0) → List Side → Finding → Type 0
Bisects Good box found = (n : ℕ) × BisectsWithin Good n box found

-- what is found in some boxes, one after another
abbrev pub BisectsEach : (List Side → Type 0) → List (List Side) → Finding → Type 0
BisectsEach Good [] found = (found ≡ Begun []) ⊎ (found ≡ Whole [])
BisectsEach Good (box ∷ boxes) found =
    (a b : Finding) × Bisects Good box a × BisectsEach Good boxes b × (found ≡ followed a b)
