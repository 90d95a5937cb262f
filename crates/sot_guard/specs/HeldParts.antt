-- What the test of a plant that is to be held safe needs and answers, part by part.
use Rattle.std.specs.Prelude.{ℕ, ℤ, ◌<◌, Bool, true, false, List, [], ◌≡◌, ◌≢◌, ◌↔◌, IsTrue}
use Rattle.std.specs.Prelude.{slice_index_or, map}
use Rattle.sot_lists.specs.Places.{At}
use Rattle.sot_box.specs.Sides.{Side}
use Rattle.sot_box.specs.Boxes.{point_box}
use Rattle.sot_calendar.specs.Due.{IsDue, IsUntil}
use Rattle.sot_lang.specs.declared.tables.PlantInfo.{PlantInfo}
use Rattle.sot_lang.specs.declared.tables.NodeInfo.{NodeInfo}
use Rattle.sot_lang.specs.declared.tables.ModuleInfo.{ModuleInfo}
use Rattle.sot_lang.specs.Tables.{Tables}
use Rattle.sot_tube.specs.Tubes.{TubeInside}
use Rattle.sot_world.specs.Changes.{held_of, ArePoints}

-- where exactly what is due is left, it is q ticks until the node fires
abbrev pub IsUntilFrom : ℕ → ℕ → ℕ → ℕ → ℕ → Type 0
IsUntilFrom jitter period offset time q =
    (left : Bool) → (left ≡ true) ↔ IsDue period offset time
    → IsUntil jitter left period offset time q

-- tubes can be followed from these points
pub record MayBeHeld (p : Tables) (jitter : ℕ) (points : List (List ℤ)) : Type 0 where
  pub points_are : ArePoints p points
  pub boxes : (m : ℕ) (a : ModuleInfo) → At p.modules m a → a.safe.boxes ≢ []
  pub few : (m : ℕ) (a : ModuleInfo) → At p.modules m a → jitter < a.period

-- whether a module's plant stays safe from a point with these commands until its safe node fires
abbrev pub AnswersHeld : Tables → ℕ → ℕ → List Side → List ℤ → ℕ → Bool → Type 0
AnswersHeld p jitter time held s m answer =
    (a : ModuleInfo) (plant : PlantInfo) (node : NodeInfo) → At p.modules m a
    → At p.plants a.plant plant → At p.nodes a.sc node
    → (q : ℕ) × IsUntilFrom jitter node.period node.offset time q
    × (IsTrue answer ↔ TubeInside p plant held a.safe.boxes (point_box s) q)

-- .. from these points with the commands among these numbers
abbrev pub AnswersAt : Tables → ℕ → ℕ → List ℤ → List (List ℤ) → ℕ → Bool → Type 0
AnswersAt p jitter time scalars points m answer =
    (a : ModuleInfo) (plant : PlantInfo) (node : NodeInfo) → At p.modules m a
    → At p.plants a.plant plant → At p.nodes a.sc node
    → (q : ℕ) × IsUntilFrom jitter node.period node.offset time q
    × (IsTrue answer ↔ TubeInside p plant (point_box (held_of plant scalars)) a.safe.boxes
    (point_box (slice_index_or points a.plant [])) q)

-- the first module that does not stay so
pub record IsFirstAnswer (p : Tables) (jitter time : ℕ) (scalars : List ℤ)
    (points : List (List ℤ)) (m : ℕ) : Type 0 where
  pub module_info : ModuleInfo
  pub plant : PlantInfo
  pub node : NodeInfo
  pub is : At p.modules m module_info
  pub plant_is : At p.plants module_info.plant plant
  pub node_is : At p.nodes module_info.sc node
  pub unheld : AnswersAt p jitter time scalars points m false
  pub before : (k : ℕ) → k < m → AnswersAt p jitter time scalars points k true

-- every module's plant stays so at the beginning
abbrev pub AreAnswered : Tables → ℕ → ℕ → List (List ℤ) → Type 0
AreAnswered p jitter time start =
    (m : ℕ) → AnswersAt p jitter time (map (λ i. i.init) p.scalars) start m true
