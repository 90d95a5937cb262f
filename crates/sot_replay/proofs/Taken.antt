-- What is possible the world does not refuse.
use Rattle.std.proofs.Common.{◌≡◌, ◌∙◌, ℕ, ℤ, true, List, sym}
use Rattle.std.proofs.lemmas.Bool.{false≢true}
use Rattle.sot_lists.specs.Places.{At}
use Rattle.sot_lang.specs.declared.tables.NodeInfo.{NodeInfo}
use Rattle.sot_lang.specs.declared.tables.ModuleInfo.{ModuleInfo}
use Rattle.sot_lang.specs.Tables.{Tables}
use Rattle.sot_world.specs.declared.outcome.Why.{Why}
use Rattle.sot_world.specs.declared.outcome.Why.TheVariants as whys
use Rattle.sot_world.specs.Configurations.{is_left, is_left_dm}
use Rattle.sot_world.specs.Configurations as configurations
use Rattle.sot_world.specs.Steps.{MayTick}
use Rattle.sot_world.specs.Events.{IsTypedInput, IsInBounds, RefusesNode, RefusesDecision, RefusesInput, RefusesTick}
use Rattle.sot_world.specs.Calendar.{NothingLeft}
use Rattle.sot_board.specs.Standing.{Standing, IsStanding}
use Rattle.sot_replay.specs.Tests.{RefusesEnd}

module _ (b : Standing) (stands : IsStanding b) where
  pub node_taken :
      (n : ℕ) (node : NodeInfo) → At b.accepted.program.nodes n node → is_left b.position.at n ≡ true → (why : Why)
      → RefusesNode b.accepted.program b.accepted.cert.jitter b.position.at n why → ⊥
  node_taken n node at left whys.NotDue not = (let due = stands.kept.holds.due n node at left in not (node, at, (due.0, due.1.due, due.1.past, due.2)))
  node_taken n node at left whys.AlreadyFired (due, fired) = false≢true (sym fired ∙ left)
  node_taken n node at left whys.NodesLeft not = not
  node_taken n node at left whys.OutsideType not = not

  pub decision_taken :
      (m : ℕ) (a : ModuleInfo) → At b.accepted.program.modules m a → is_left_dm b.position.at m ≡ true → (why : Why)
      → RefusesDecision b.accepted.program b.accepted.cert.jitter b.position.at m why → ⊥
  decision_taken m a at left whys.NotDue not = (let due = stands.kept.holds.due_dm m a at left in not (a, at, (due.0, due.1.due, due.1.past, due.2)))
  decision_taken m a at left whys.AlreadyFired (due, fired) = false≢true (sym fired ∙ left)
  decision_taken m a at left whys.NodesLeft not = not
  decision_taken m a at left whys.OutsideType not = not

pub input_taken : (p : Tables) (topic : ℕ) (value : List ℤ) → IsTypedInput p topic value → (why : Why) → RefusesInput p topic value why → ⊥
input_taken p topic value typed whys.NotDue not = not
input_taken p topic value typed whys.AlreadyFired not = not
input_taken p topic value typed whys.NodesLeft not = not
input_taken p topic value typed whys.OutsideType not = not typed

pub tick_taken : (p : Tables) (j : ℕ) (C : configurations.Configuration) (noise : List ℤ) → MayTick p j C × IsInBounds p.plants noise → (why : Why)
    → RefusesTick p j C noise why → ⊥
tick_taken p j C noise both whys.NotDue not = not
tick_taken p j C noise both whys.AlreadyFired not = not
tick_taken p j C noise both whys.NodesLeft not = not both.0
tick_taken p j C noise both whys.OutsideType not = not.1 both.1

pub end_taken : (p : Tables) (C : configurations.Configuration) → NothingLeft p C → (why : Why) → RefusesEnd p C why → ⊥
end_taken p C none whys.NotDue not = not
end_taken p C none whys.AlreadyFired not = not
end_taken p C none whys.NodesLeft not = not none
end_taken p C none whys.OutsideType not = not
