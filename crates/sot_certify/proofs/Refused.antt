-- A cell that is refused is not good.
use Rattle.std.proofs.Common.{ℕ, ⊎_elim, List, Err, false, true, subst}
use Rattle.std.specs.Prelude.{◌+◌, ◌*◌}
use Rattle.sot_box.specs.Sides.{Side}
use Rattle.sot_box.proofs.Laws.{gap_uncovered}
use Rattle.sot_lists.specs.Places.{At}
use Rattle.sot_lang.specs.declared.act.Act.{Act}
use Rattle.sot_lang.specs.declared.tables.PlantInfo.{PlantInfo}
use Rattle.sot_lang.specs.declared.tables.NodeInfo.{NodeInfo}
use Rattle.sot_lang.specs.declared.tables.ModuleInfo.{ModuleInfo}
use Rattle.sot_lang.specs.Tables.{Tables}
use Rattle.sot_lang.specs.Ranges.{input_ranges}
use Rattle.sot_lang.specs.TableRules.{MeetsTableRules}
use Rattle.sot_tube.specs.Refusals.{Refusal}
use Rattle.sot_tube.specs.Leaves.{TubeLeaves}
use Rattle.sot_tube.specs.Certified.{command_intervals}
use Rattle.sot_tube.specs.Verdict.{closed_cell}
use Rattle.sot_tube.proofs.Leaving.{tube_leaves_not}
use Rattle.sot_tube.proofs.VerdictExact.{drafts_same}
use Rattle.sot_rta.specs.declared.refusal.Refusal.{Refusal as CodeRefusal}
use Rattle.sot_rta.specs.Refused.{refusal_view}
use Rattle.sot_rta.specs.Cells.{AnswersClosedCell, AnswersReachCell}
use Rattle.sot_certify.specs.Made.{IsGood}

closed_refused : (p : Tables) (m : ℕ) (a : ModuleInfo) (plant : PlantInfo) (sc : NodeInfo) (us : List Act) (i : ℕ) (cell : List Side) (r : Refusal)
    → (closed_cell p 0 m a plant sc us i cell).Refuses r → (closed_cell p 0 m a plant sc us i cell).Passes → ⊥
closed_refused p m a plant sc us i cell r h passes =
    ⊎_elim
    (λ out. gap_uncovered a.safe.boxes cell out.0 out.1 passes.covered)
    (λ later.
    let e = drafts_same p a sc us cell later.1 passes.fired later.2 passes.drafts in
    tube_leaves_not p plant (command_intervals p plant sc passes.fired.draft) a.safe.boxes cell (sc.period + 0) h.0
    (subst (λ q. TubeLeaves p plant (command_intervals p plant sc q.draft) a.safe.boxes cell (sc.period + 0) h.0) e later.3) passes.stays)
    h.1

pub not_closed : (p : Tables) (m : ℕ) (a : ModuleInfo) (cell : List Side) (r : CodeRefusal) → MeetsTableRules p → At p.modules m a
    → AnswersClosedCell p 0 m a 0 cell (Err r) → IsGood p a false cell → ⊥
not_closed p m a cell r rules at answer good =
    let plant = rules.typed.plant_is m a at in
    let sc = rules.typed.sc_is m a at in
    closed_refused p m a plant.0 sc.0 sc.1 0 cell (refusal_view r) (answer plant.0 sc.0 sc.1 plant.1 sc.2 sc.3) (good plant.0 sc.0 sc.1 plant.1 sc.2 sc.3)

pub not_reach : (p : Tables) (m : ℕ) (a : ModuleInfo) (cell : List Side) (r : CodeRefusal) → MeetsTableRules p → At p.modules m a
    → AnswersReachCell p 0 m a 0 cell (Err r) → IsGood p a true cell → ⊥
not_reach p m a cell r rules at answer good =
    let plant = rules.typed.plant_is m a at in
    let h = answer plant.0 plant.1 in
    tube_leaves_not p plant.0 (input_ranges p plant.0) a.safe.boxes cell (2 * (a.period + 0)) h.0 h.1 (good plant.0 plant.1)
