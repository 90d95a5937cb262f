use Rattle.std.proofs.Common.{arith}
use Rattle.sot_rta.specs.Topics.{GoesOver}
use Rattle.sot_rta.proofs.Steps.{one_more, all_below}
use Rattle.sot_rta.proofs.topics.first_missing.Goals as goal

pub loop-topic-preserved : goal.loop-topic-preserved
loop-topic-preserved c =
    one_more (λ t. GoesOver c.args.infos.now c.args.some.now c.args.others.now t) c.loop-topic.topic c.loop-topic.invariant
    (c.is_missing.ensures.over c.if-is_missing.false)

pub returns-clause-first : goal.returns-clause-first
returns-clause-first c =
    all_below (λ t. GoesOver c.args.infos.now c.args.some.now c.args.others.now t) c.loop-topic.topic c.args.topics (omega (arith, c.loop-topic-test.false))
    c.loop-topic.invariant
