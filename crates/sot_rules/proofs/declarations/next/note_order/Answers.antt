-- Of `note_order`: that its loop keeps what it says.
use Rattle.sot_rules.proofs.Nexts.{order_more}
use Rattle.sot_rules.proofs.declarations.next.note_order.Goals as goal

pub loop-k-preserved : goal.loop-k-preserved
loop-k-preserved c =
    order_more c.args.states.now c.args.next.now c.loop-k.k c.index-next-k.result c.is_state-fits.result _ _ _
    c.loop-k-test.true c.index-next-k.is c.is_state-fits.ensures c.note.ensures c.loop-k.invariant
