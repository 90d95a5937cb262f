use Rattle.std.proofs.Common.{rules, arith, ◌≡◌, ◌<◌, ℕ, length}
use Rattle.sot_compose.specs.Outputs.{AreRelated}
use Rattle.sot_rta.proofs.Steps.{one_more, below_or_not}
use Rattle.sot_compose.proofs.Strangers.{not_there}
use Rattle.sot_compose.proofs.outputs.first_writers.Goals as goal

pub loop-node-preserved : goal.loop-node-preserved
loop-node-preserved c i j lt =
    one_more (λ i. (j : ℕ) → i < j → AreRelated c.args.p.now c.args.topic i j) c.loop-node.node (λ i lt j. c.loop-node.invariant i j lt) c.in_default.ensures i
    lt j

pub returns : goal.returns
returns c i j lt =
    let few : c.len-node-end.result ≡ length c.args.p.now.nodes = search rules in
    below_or_not (λ i. (j : ℕ) → i < j → AreRelated c.args.p.now c.args.topic i j) c.loop-node.node (λ i lt j. c.loop-node.invariant i j lt)
    (λ i le j lt. not_there c.args.p.now c.args.topic i j (omega (arith, c.loop-node-test.false, few, le, lt))) i j lt
