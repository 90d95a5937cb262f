use Rattle.std.proofs.Common.{rules, arith, ◌≡◌, ◌≤◌, length}
use Rattle.std.proofs.lemmas.Option.{slice_get_within}
use Rattle.sot_compose.specs.Outputs.{Writes}
use Rattle.sot_rta.proofs.Steps.{one_more, holds, fails}
use Rattle.sot_compose.proofs.outputs.first_writer.Goals as goal

pub returns-then-writes-clause-first : goal.returns-then-writes-clause-first
returns-then-writes-clause-first c = record {
  after = c.loop-node.auto.node;
  writes = holds c.writes.result (Writes c.args.p.now c.loop-node.node c.args.topic) c.writes.ensures c.if-writes.true;
  before = c.loop-node.invariant;
}

pub loop-node-preserved : goal.loop-node-preserved
loop-node-preserved c k le lt =
    one_more (λ k. c.args.from ≤ k → Writes c.args.p.now k c.args.topic → ⊥) c.loop-node.node (λ k lt le. c.loop-node.invariant k le lt)
    (λ le. fails c.writes.result (Writes c.args.p.now c.loop-node.node c.args.topic) c.writes.ensures c.if-writes.false) k lt le

pub returns-clause-first : goal.returns-clause-first
returns-clause-first c k le w =
    let few : c.len-node-end.result ≡ length c.args.p.now.nodes = search rules in
    c.loop-node.invariant k le (omega (arith, slice_get_within c.args.p.now.nodes k w.0 w.1, c.loop-node-test.false, few)) w
