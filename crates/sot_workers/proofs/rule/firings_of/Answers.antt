use Rattle.std.proofs.Common.{refl, arith}
use Rattle.std.proofs.lemmas.Option.{slice_get_read}
use Rattle.sot_flight.proofs.DueCounts.{firings_more, firings_small}
use Rattle.sot_workers.proofs.rule.firings_of.Goals as goal

pub overflow_add-sum : goal.overflow_add-sum
overflow_add-sum c =
    let list = c.args.nodes.now in
    let at = slice_get_read list _ c.loop-node.node-index c.node-item.result refl c.loop-node-test.true c.node-item.is in
    let more = firings_more c.args.horizon list c.loop-node.node-index c.node-item.result at in
    let small = firings_small c.args.horizon list c.requires.horizon in
    omega (arith, c.loop-node.invariant, more, small, c.requires.few, c.due_times.ensures, c.from-sum.ensures)
