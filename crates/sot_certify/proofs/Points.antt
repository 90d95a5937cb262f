-- The tube of each failing point that may be answered leaves.
use Rattle.std.proofs.Common.{ℕ, ℤ, ◌⊎◌, inl, inr, false, true, List}
use Rattle.std.specs.Prelude.{◌*◌}
use Rattle.sot_box.specs.Boxes.{point_box}
use Rattle.sot_box.proofs.Ordered.{point_ordered}
use Rattle.sot_lists.specs.Places.{At}
use Rattle.sot_lang.specs.declared.tables.ModuleInfo.{ModuleInfo}
use Rattle.sot_lang.specs.Tables.{Tables}
use Rattle.sot_lang.specs.TableRules.{MeetsTableRules}
use Rattle.sot_lang.specs.Ranges.{input_ranges}
use Rattle.sot_tube.specs.Certified.{command_intervals}
use Rattle.sot_tube.proofs.VerdictExact.{drafts_same}
use Rattle.sot_certify.proofs.Covering.{failing_each}
use Rattle.sot_certify.specs.declared.fail.CertifyFail.{CertifyFail}
use Rattle.sot_certify.specs.declared.fail.CertifyFail.TheVariants.{Refused, Point, TooMany, Memory}
use Rattle.sot_certify.specs.Conditions.{without_cells}
use Rattle.sot_certify.specs.Made.{IsGood, FailsAt}
use Rattle.sot_certify.specs.Steps.{HasNoEntries}
use Rattle.sot_certify.specs.Points.{LeavesUnderSafeNode, LeavesUnderAny, IfPointLeaves}
use Rattle.sot_certify.specs.Laws.{PointsLeave}
use Rattle.sot_certify.proofs.PointDrafts.{drafts_from, commands_ordered, inputs_ordered}
use Rattle.sot_certify.proofs.Ways.{inside_or_leaves}
use Rattle.sot_certify.proofs.FailingTubes as tubes

-- what is left of two, where the first is none
excluded : {A B : Type 0} → A ⊎ B → (A → ⊥) → B
excluded (inl a) not = absurd (not a)
excluded (inr b) not = b

module _ (p : Tables) (rules : MeetsTableRules p) (passes : (without_cells p).Passes) (m : ℕ) (a : ModuleInfo) (at : At p.modules m a) (s : List ℤ) where
  held : FailsAt p a false s → LeavesUnderSafeNode p a s
  held h =
      let plant = rules.typed.plant_is m a at in
      let sc = rules.typed.sc_is m a at in
      let inside = (failing_each (IsGood p a false) a.safe.boxes h.cells s h.found).0 in
      let free = passes.1.1 a.sc sc.0 sc.2 sc.1 sc.3 in
      let f = drafts_from p rules a plant.0 sc.0 plant.1 sc.2 m sc.1 (point_box s) at passes.0.1.1.0 sc.3 free (point_ordered s)
      (tubes.point_covered a s inside) in
      let outside = tubes.closed p a s plant.0 sc.0 sc.1 f.0 plant.1 sc.2 sc.3 f.1 h in
      let commands = commands_ordered p rules a plant.0 sc.0 plant.1 sc.2 sc.1 (point_box s) f.0 (point_ordered s) f.1 in
      let way = excluded (inside_or_leaves p a.plant plant.0 free.0 (command_intervals p plant.0 sc.0 f.0.draft) a.safe.boxes (point_box s) sc.0.period rules
      plant.1 free.1 commands (point_ordered s)) outside in
      record {
        plant = plant.0;
        plant_is = plant.1;
        sc = sc.0;
        sc_is = sc.2;
        acts = sc.1;
        coded = sc.3;
        fired = f.0;
        drafts = f.1;
        only = λ other from. drafts_same p a sc.0 sc.1 (point_box s) other f.0 from f.1;
        outside = outside;
        way = way.0;
        leaves = way.1;
      }

  any : FailsAt p a true s → LeavesUnderAny p a s
  any h =
      let plant = rules.typed.plant_is m a at in
      let sc = rules.typed.sc_is m a at in
      let free = passes.1.1 a.sc sc.0 sc.2 sc.1 sc.3 in
      let outside = tubes.reach p a s plant.0 plant.1 h in
      let commands = inputs_ordered p rules a plant.0 sc.0 plant.1 sc.2 in
      let way = excluded (inside_or_leaves p a.plant plant.0 free.0 (input_ranges p plant.0) a.safe.boxes (point_box s) (2 * a.period) rules plant.1 free.1
      commands (point_ordered s)) outside in
      record { plant = plant.0; plant_is = plant.1; outside = outside; way = way.0; leaves = way.1 }

pub points_leave : PointsLeave
points_leave p m false s rules h = record {
  module_info = h.1;
  is = h.2.is;
  in_region = (failing_each (IsGood p h.1 false) h.1.safe.boxes h.3.cells s h.3.found).0;
  leaves = held p rules h.0 m h.1 h.2.is s h.3;
}
points_leave p m true s rules h = record {
  module_info = h.1;
  is = h.2.is;
  in_region = (failing_each (IsGood p h.1 true) h.1.safer.boxes h.3.cells s h.3.found).0;
  leaves = any p rules h.0 m h.1 h.2.is s h.3;
}

-- so of each failure of the lists
pub no_entries : (p : Tables) (fail : CertifyFail) → MeetsTableRules p → (without_cells p).Passes → HasNoEntries p fail → IfPointLeaves p fail
no_entries p (Refused r) rules passes h = absurd h
no_entries p (Point m reach s) rules passes h = points_leave p m reach s rules (passes, h.0, h.1, h.2)
no_entries p (TooMany m reach) rules passes h = tt
no_entries p Memory rules passes h = tt
