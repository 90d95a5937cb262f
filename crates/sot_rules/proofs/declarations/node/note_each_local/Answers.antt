-- Of `note_each_local`: that its loop keeps what it says.
use Rattle.sot_syntax_tree.specs.TreeViews.{local_view}
use Rattle.sot_rules.specs.Faults.{together, local_lists}
use Rattle.sot_rules.proofs.Loops.{step_viewed}
use Rattle.sot_rules.proofs.declarations.node.note_each_local.Goals as goal

pub loop-l-preserved : goal.loop-l-preserved
loop-l-preserved c n held =
    step_viewed local_view (λ x. together (local_lists n x)) c.args.locals.now c.loop-l.l-index c.l-item.result _ _ _
    c.loop-l-test.true c.l-item.is (c.loop-l.invariant n held) (c.note_local.ensures n held)
