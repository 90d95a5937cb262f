-- Lines in the places of the header and the start lines.
use Rattle.std.specs.Prelude.{ℕ, ◌<◌, ◌≡◌, ◌≢◌, ◌⊎◌, List, [], ◌∷◌, length, take, drop}
use Rattle.sot_lists.specs.Places.{At}
use Rattle.sot_lang.specs.Tables.{Tables}
use Rattle.sot_flight.specs.Plans.{Plan}
use Rattle.sot_replay.specs.Replays.{opening_lines, RefusesStart}
use Rattle.sot_replay.specs.declared.fail.LineKind.{LineKind}
use Rattle.sot_replay.specs.declared.fail.LineKind.TheVariants.{NotALine, Missing}

-- why a line in this place is refused: in the first it is not the header, and in a later one not
-- the start line
abbrev pub RefusesOpening : Tables → ℕ → List ℕ → LineKind → Type 0
RefusesOpening p place line kind =
    ((place ≡ 0) × (kind ≡ NotALine)) ⊎ ((place ≢ 0) × RefusesStart p line kind)

-- the lines before this place are those that have to stand there, and then they stop, or another
-- one stands there
pub record IsOpeningRefused (p : Tables) (f : Plan) (lines : List (List ℕ)) (place : ℕ)
    (kind : LineKind) : Type 0 where
  pub inside : place < length (opening_lines p f)
  pub front : take place lines ≡ take place (opening_lines p f)
  pub why : ((drop place lines ≡ []) × (kind ≡ Missing))
      ⊎ ((line : List ℕ) × (more : List (List ℕ)) × (drop place lines ≡ line ∷ more)
      × (At (opening_lines p f) place line → ⊥) × RefusesOpening p place line kind)
