use Rattle.std.proofs.Common.{rules, arith, ◌≡◌, ◌<◌, ℕ, length, sym, subst}
use Rattle.sot_compose.specs.Outputs.{AreAllRelated, AreFirstWriters}
use Rattle.sot_rta.proofs.Steps.{one_more, all_below}
use Rattle.sot_compose.proofs.outputs.first_shared_output.Goals as goal

pub returns-in-Some-clause-first : goal.returns-in-Some-clause-first
returns-in-Some-clause-first c =
    subst (λ y. AreFirstWriters c.args.p.now y c.in-Some.clash.a c.in-Some.clash.b × ((t : ℕ) → t < y → AreAllRelated c.args.p.now t)) (sym c.in-Some.ensures.0)
    (c.in-Some.ensures.1, c.loop-topic.invariant)

pub loop-topic-preserved : goal.loop-topic-preserved
loop-topic-preserved c = one_more (AreAllRelated c.args.p.now) c.loop-topic.topic c.loop-topic.invariant c.in_default.ensures

pub returns-clause-first : goal.returns-clause-first
returns-clause-first c =
    let few : c.len-topic-end.result ≡ length c.args.p.now.topics = search rules in
    all_below (AreAllRelated c.args.p.now) c.loop-topic.topic (length c.args.p.now.topics) (omega (arith, c.loop-topic-test.false, few)) c.loop-topic.invariant
