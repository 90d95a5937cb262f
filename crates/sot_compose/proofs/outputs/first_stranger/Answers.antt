use Rattle.std.proofs.Common.{rules, arith, ◌≡◌, ◌<◌, length}
use Rattle.sot_compose.specs.Outputs.{AreRelated}
use Rattle.sot_rta.proofs.Steps.{one_more, below_or_not}
use Rattle.sot_compose.proofs.Strangers.{not_written, not_there}
use Rattle.sot_compose.proofs.outputs.first_stranger.Goals as goal

pub returns-then-not-writes : goal.returns-then-not-writes
returns-then-not-writes c k behind = not_written c.args.p.now c.args.topic c.args.node c.writes.result c.writes.ensures (search rules) k

pub returns-then-is_stranger : goal.returns-then-is_stranger
returns-then-is_stranger c =
    record { behind = omega (arith, c.loop-other.auto.other); shares = c.is_stranger.ensures.shares c.if-is_stranger.true; before = c.loop-other.invariant }

pub loop-other-preserved : goal.loop-other-preserved
loop-other-preserved c k behind lt =
    one_more (λ k. c.args.node < k → AreRelated c.args.p.now c.args.topic c.args.node k) c.loop-other.other (λ k lt behind. c.loop-other.invariant k behind lt)
    (λ behind. c.is_stranger.ensures.related c.if-is_stranger.false) k lt behind

pub returns : goal.returns
returns c k behind =
    let few : c.len-other-end.result ≡ length c.args.p.now.nodes = search rules in
    below_or_not (λ k. c.args.node < k → AreRelated c.args.p.now c.args.topic c.args.node k) c.loop-other.other
    (λ k lt behind. c.loop-other.invariant k behind lt) (λ k le behind.
    not_there c.args.p.now c.args.topic c.args.node k (omega (arith, c.loop-other-test.false, few, le))) k behind
