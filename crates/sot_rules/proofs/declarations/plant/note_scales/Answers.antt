-- Of `note_scales`: that its loop keeps what it says.
use Rattle.sot_syntax_tree.specs.declared.tree.StateDecl.{StateDecl}
use Rattle.sot_rules.specs.Faults.{scale_faults}
use Rattle.sot_rules.proofs.Loops.{step_each}
use Rattle.sot_rules.proofs.declarations.plant.note_scales.Goals as goal

pub loop-state-preserved : goal.loop-state-preserved
loop-state-preserved c =
    step_each (λ (s : StateDecl). scale_faults s.scale) c.args.states.now c.loop-state.state-index c.state-item.result _ _ _
    c.loop-state-test.true c.state-item.is c.loop-state.invariant c.note_scale.ensures
