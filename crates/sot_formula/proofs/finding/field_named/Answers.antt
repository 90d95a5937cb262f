use Rattle.std.proofs.Common.{◌<◌, length, ap, subst, ◌∙◌, arith}
use Rattle.sot_lists.specs.Places.{At}
use Rattle.sot_lists.proofs.Places.{read_at}
use Rattle.sot_lang.specs.Tables.{Tables}
use Rattle.sot_lang.specs.TableRules.{MeetsTableRules}
use Rattle.sot_lang.proofs.Topics.{topic_inside}
use Rattle.sot_formula.proofs.Counts.{few_scalars}
use Rattle.sot_formula.proofs.finding.field_named.Goals as goal

pub field_in-requires-clause-few : goal.field_in-requires-clause-few
field_in-requires-clause-few c =
    let rules = subst MeetsTableRules c.p.view_is c.p.invariant in
    let scalars = c.deref-3.ensures.value ∙ ap (λ (t : Tables). t.scalars) c.p.view_is in
    let few = few_scalars c.args.p.now rules in
    let n = ap length scalars in
    omega (arith, few, n)

pub field_in-requires-clause-there : goal.field_in-requires-clause-there
field_in-requires-clause-there c =
    let rules = subst MeetsTableRules c.p.view_is c.p.invariant in
    let scalars = c.deref-3.ensures.value ∙ ap (λ (t : Tables). t.scalars) c.p.view_is in
    let topics = c.deref-2.ensures.value ∙ ap (λ (t : Tables). t.topics) c.p.view_is in
    let found = c.in_ok-topic.ensures.lookup in
    let at : At c.args.p.now.topics c.in_ok-t.t c.in_ok-topic.topic.now = read_at c.deref-2.result.now c.args.p.now.topics c.in_ok-t.t
    c.in_ok-topic.topic.now topics
    (subst (λ l. c.in_ok-t.t < length l) topics found.3.0) found.1 in
    let inside = topic_inside c.args.p.now rules c.in_ok-t.t c.in_ok-topic.topic.now at in
    let n = ap length scalars in
    omega (arith, inside, n)
