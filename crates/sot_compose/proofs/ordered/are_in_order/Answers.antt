use Rattle.std.proofs.Common.{rules, arith, ◌≡◌, length}
use Rattle.sot_compose.proofs.InOrder.{none_before, one_more, all_before}
use Rattle.sot_compose.proofs.ordered.are_in_order.Goals as goal

pub loop-node-init : goal.loop-node-init
loop-node-init c = none_before c.args.p.now

pub loop-node-preserved : goal.loop-node-preserved
loop-node-preserved c =
    one_more c.args.p.now c.loop-node.node c.loop-node.behind c.loop-node.next c.in-Some.topic c.in-Some.ensures c.loop-node.invariant
    (c.is_apart.ensures c.if-not-is_apart.false) c.greater-next.result c.greater-next.ensures.first c.greater-next.ensures.second

pub returns : goal.returns
returns c e =
    let few : c.len-node-end.result ≡ length c.args.p.now.nodes = search rules in
    all_before c.args.p.now c.loop-node.node c.loop-node.behind c.loop-node.next (omega (arith, c.loop-node-test.false, few)) c.loop-node.invariant
