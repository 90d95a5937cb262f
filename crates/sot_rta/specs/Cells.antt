-- What has to hold before the cells of modules are checked.
use Rattle.std.specs.Prelude.{ℕ, ◌+◌, ◌<◌, ◌≡◌, List, Result, MatchResult}
use Rattle.sot_box.specs.Sides.{Side}
use Rattle.sot_box.specs.BoxList.{BoxList}
use Rattle.sot_lang.specs.declared.tables.PlantInfo.{PlantInfo}
use Rattle.sot_lang.specs.declared.tables.ModuleInfo.{ModuleInfo}
use Rattle.sot_iv.specs.BodyIntervals.{Intervals}
use Rattle.sot_tube.specs.Certified.{DraftsFrom, command_intervals}
use Rattle.sot_tube.specs.Tubes.{TubeInside}
use Rattle.sot_tube.specs.declared.leave.Leave.{Leave}
use Rattle.sot_tube.specs.Leaves.{TubeLeaves}
use Rattle.sot_tube.specs.Checks.{for_each}
use Rattle.sot_tube.specs.Verdict.{closed_cell, reach_cell, cell_checks}
use Rattle.sot_rta.specs.declared.refusal.Refusal.{Refusal}
use Rattle.sot_rta.specs.Refused.{Answers}
use Rattle.sot_lang.specs.declared.act.Act.{Act}
use Rattle.sot_lang.specs.declared.tables.NodeInfo.{NodeInfo}
use Rattle.sot_lang.specs.declared.cert.Cells.{Cells}
use Rattle.sot_lang.specs.Tables.{Tables}
use Rattle.sot_lang.specs.TableRules.{MeetsTableRules, IsCoded}
use Rattle.sot_lang.specs.CertRules.{AreCellsOf}
use Rattle.sot_lists.specs.Places.{At}
use Rattle.sot_iv.specs.TrapFree.{IsTrapFree}
use Rattle.sot_tube.specs.Composition.{NoSharedPlant}
use Rattle.sot_traps.specs.Verdict.{HaveSafeBoxes}

-- no plant belongs to two modules, each safe region has a box, and each coded node is trap-free
pub record MayHaveCells (p : Tables) : Type 0 where
  pub own_plant : NoSharedPlant p
  pub boxes : HaveSafeBoxes p
  pub free : (n : ℕ) (node : NodeInfo) (acts : List Act) → At p.nodes n node → IsCoded node acts
      → IsTrapFree p node acts

-- these are the intervals of the commands that are held from a cell, with what the safe node surely
-- drafts there
abbrev pub AreHeldCommands : Tables → ModuleInfo → List Side → List Side → Type 0
AreHeldCommands p a cell sides =
    (plant : PlantInfo) (sc : NodeInfo) (acts : List Act) → At p.plants a.plant plant
    → At p.nodes a.sc sc → IsCoded sc acts
    → (fired : Intervals) × DraftsFrom p a sc acts cell fired
    × (sides ≡ command_intervals p plant sc fired.draft)

-- whether the held tube of a cell is inside the safe region, with what the safe node surely drafts
-- from the cell, and else how it leaves
abbrev pub AnswersHeldTube : Tables → ℕ → ModuleInfo → List Side → Result (Unit {0}) Leave → Type 0
AnswersHeldTube p jitter a cell result =
    (plant : PlantInfo) (sc : NodeInfo) (acts : List Act) → At p.plants a.plant plant
    → At p.nodes a.sc sc → IsCoded sc acts
    → (fired : Intervals) × DraftsFrom p a sc acts cell fired
    × MatchResult result
    (λ _. TubeInside p plant (command_intervals p plant sc fired.draft) a.safe.boxes cell
    (sc.period + jitter))
    (λ leave. TubeLeaves p plant (command_intervals p plant sc fired.draft) a.safe.boxes cell
    (sc.period + jitter) leave)

-- the answer of a closed cell
abbrev pub AnswersClosedCell : Tables → ℕ → ℕ → ModuleInfo → ℕ → List Side
    → Result (Unit {0}) Refusal → Type 0
AnswersClosedCell p jitter m a i cell result =
    (plant : PlantInfo) (sc : NodeInfo) (acts : List Act) → At p.plants a.plant plant
    → At p.nodes a.sc sc → IsCoded sc acts
    → Answers (closed_cell p jitter m a plant sc acts i cell) result

-- the answer of a reach cell
abbrev pub AnswersReachCell : Tables → ℕ → ℕ → ModuleInfo → ℕ → List Side
    → Result (Unit {0}) Refusal → Type 0
AnswersReachCell p jitter m a i cell result =
    (plant : PlantInfo) → At p.plants a.plant plant
    → Answers (reach_cell p jitter m a plant i cell) result

-- the cells of module m may be checked: it is there, its tables meet their rules, and the cells are
-- cells of its plant
pub record MayCheck (p : Tables) (jitter m : ℕ) (a : ModuleInfo) (cells : BoxList) : Type 0 where
  pub below : jitter < 1000
  pub there : At p.modules m a
  pub rules : MeetsTableRules p
  pub may : MayHaveCells p
  pub fit : AreCellsOf p a.plant cells

-- the answer of the closed cell at place i, and of the reach cell there
abbrev pub AnswersClosedPlace : Tables → ℕ → ℕ → ModuleInfo → List (List Side) → ℕ
    → Result (Unit {0}) Refusal → Type 0
AnswersClosedPlace p jitter m a cells i result =
    (cell : List Side) → At cells i cell → AnswersClosedCell p jitter m a i cell result

abbrev pub AnswersReachPlace : Tables → ℕ → ℕ → ModuleInfo → List (List Side) → ℕ
    → Result (Unit {0}) Refusal → Type 0
AnswersReachPlace p jitter m a cells i result =
    (cell : List Side) → At cells i cell → AnswersReachCell p jitter m a i cell result

-- the answer of all closed cells, and that of all reach cells
abbrev pub AnswersClosedCells : Tables → ℕ → ℕ → ModuleInfo → List (List Side)
    → Result (Unit {0}) Refusal → Type 0
AnswersClosedCells p jitter m a cells result =
    (plant : PlantInfo) (sc : NodeInfo) (acts : List Act) → At p.plants a.plant plant
    → At p.nodes a.sc sc → IsCoded sc acts
    → Answers (for_each cells (closed_cell p jitter m a plant sc acts)) result

abbrev pub AnswersReachCells : Tables → ℕ → ℕ → ModuleInfo → List (List Side)
    → Result (Unit {0}) Refusal → Type 0
AnswersReachCells p jitter m a cells result =
    (plant : PlantInfo) → At p.plants a.plant plant
    → Answers (for_each cells (reach_cell p jitter m a plant)) result

-- the answer of all cells of a module
abbrev pub AnswersCells : Tables → ℕ → ℕ → ModuleInfo → Cells → Result (Unit {0}) Refusal → Type 0
AnswersCells p jitter m a cells result =
    (plant : PlantInfo) (sc : NodeInfo) (acts : List Act) → At p.plants a.plant plant
    → At p.nodes a.sc sc → IsCoded sc acts
    → Answers (cell_checks p jitter m a plant sc acts cells) result
