-- What is true of the stated values of every flight that fits its program.
use Rattle.std.specs.Prelude.{◌≡◌, ℕ, ℤ, List, [], length, Option, Some, slice_index_or}
use Rattle.sot_lists.specs.Places.{At}
use Rattle.sot_box.specs.Boxes.{IsWithin}
use Rattle.sot_lang.specs.declared.tables.PlantInfo.{PlantInfo}
use Rattle.sot_lang.specs.declared.tables.NodeInfo.{NodeInfo}
use Rattle.sot_lang.specs.Tables.{Tables}
use Rattle.sot_lang.specs.TableRules.{MeetsTableRules}
use Rattle.sot_lang.specs.Ranges.{bounds}
use Rattle.sot_flight.specs.Plans.{Plan, Crew}
use Rattle.sot_flight.specs.Stated.{stated_noise, draft_of}
use Rattle.sot_flight.specs.Fits.{FitsFlight}

-- each tick has disturbances for each plant, in its bounds
abbrev pub StatedNoiseIsInBounds : Type 0
StatedNoiseIsInBounds =
    (p : Tables) (guests : ℕ) (f : Plan) (t k : ℕ) (plant : PlantInfo) → MeetsTableRules p
    → FitsFlight p guests f → At p.plants k plant →
    IsWithin (bounds plant) (slice_index_or (stated_noise p f t) k [])

-- each tick has disturbances for the plants and for no others
abbrev pub StatedNoiseIsForPlants : Type 0
StatedNoiseIsForPlants =
    (p : Tables) (guests : ℕ) (f : Plan) (t : ℕ) → FitsFlight p guests f
    → length (stated_noise p f t) ≡ length p.plants

-- a stated draft has a slot for each scalar that the node writes
abbrev pub StatedDraftsAreOfNodes : Type 0
StatedDraftsAreOfNodes =
    (p : Tables) (guests : ℕ) (f : Plan) (n i : ℕ) (node : NodeInfo) (crew : Crew)
    (draft : List (Option ℤ)) → FitsFlight p guests f → At p.nodes n node → At f.crews n crew →
    draft_of p node crew i ≡ Some draft → length draft ≡ length node.writes.items
