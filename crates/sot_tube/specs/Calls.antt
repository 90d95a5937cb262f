-- What the calls that follow a tube ask for and answer.
use Rattle.std.specs.Prelude.{ℕ, List, [], Result, ◌≡◌, ◌≢◌, ◌<◌, length, MatchResult}
use Rattle.sot_lang.specs.declared.tables.PlantInfo.{PlantInfo}
use Rattle.sot_lang.specs.declared.tables.ModuleInfo.{ModuleInfo}
use Rattle.sot_lang.specs.Tables.{Tables}
use Rattle.sot_lang.specs.OwnerNames.{width_of}
use Rattle.sot_box.specs.Sides.{Side}
use Rattle.sot_lists.specs.Places.{At}
use Rattle.sot_tube.specs.Tubes.{TubeInside, AnyTubeInside}
use Rattle.sot_tube.specs.Leaves.{Leave, TubeLeaves, AnyTubeLeaves}

-- every safe region has a box, the module exists, and the box has a side for each state variable of
-- its plant
pub record MayFollow (p : Tables) (m : ℕ) (box : List Side) : Type 0 where
  pub boxes : (i : ℕ) (a : ModuleInfo) → At p.modules i a → a.safe.boxes ≢ []
  pub exists' : m < length p.modules
  pub width : (a : ModuleInfo) → At p.modules m a → length box ≡ width_of p.plants a.plant

-- Ok where the tube with these commands from a box is inside the module's safe region, and else how
-- it leaves
abbrev pub AnswersTube : Tables → ℕ → List Side → List Side → ℕ → Result (Unit {0}) Leave → Type 0
AnswersTube p m commands box k result =
    (a : ModuleInfo) (plant : PlantInfo) → At p.modules m a → At p.plants a.plant plant
    → MatchResult result (λ _. TubeInside p plant commands a.safe.boxes box k)
    (λ leave. TubeLeaves p plant commands a.safe.boxes box k leave)

-- Ok where the tube from a box, with commands anywhere in their types, is inside the module's safe
-- region, and else how it leaves
abbrev pub AnswersAnyTube : Tables → ℕ → List Side → ℕ → Result (Unit {0}) Leave → Type 0
AnswersAnyTube p m box k result =
    (a : ModuleInfo) (plant : PlantInfo) → At p.modules m a → At p.plants a.plant plant
    → MatchResult result (λ _. AnyTubeInside p plant a.safe.boxes box k)
    (λ leave. AnyTubeLeaves p plant a.safe.boxes box k leave)

-- one interval for each input of the module's plant
abbrev pub AreCommands : Tables → ℕ → List Side → Type 0
AreCommands p m commands =
    (a : ModuleInfo) (plant : PlantInfo) → At p.modules m a → At p.plants a.plant plant
    → length commands ≡ length plant.inputs.items
