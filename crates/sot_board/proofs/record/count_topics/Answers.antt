use Rattle.std.proofs.Common.{ap, subst, arith}
use Rattle.std.proofs.lemmas.Option.{slice_get_within}
use Rattle.sot_lists.specs.Places.{At}
use Rattle.sot_lists.proofs.Places.{read_at}
use Rattle.sot_lang.specs.TableRules.{MeetsTableRules}
use Rattle.sot_board.proofs.record.count_topics.Goals as goal

pub count_firing-requires-clause-written : goal.count_firing-requires-clause-written
count_firing-requires-clause-written c = λ i k at_k.
    let rules = subst MeetsTableRules c.p.view_is c.p.invariant in
    let info = read_at _ _ c.args.node _ (ap (λ t. t.nodes) c.p.view_is) c.requires.there c.index.ensures in
    rules.typed.inside c.args.node c.index.result.now k info (i, subst (λ l. At l i k) c.deref.ensures.value at_k)

pub count_firing-requires-clause-topics : goal.count_firing-requires-clause-topics
count_firing-requires-clause-topics c = λ k info at.
    let rules = subst MeetsTableRules c.p.view_is c.p.invariant in
    let topic = rules.typed.scalar_topic k info at in
    omega (arith, slice_get_within c.args.p.now.topics info.topic topic.0 topic.1, c.requires.topics)
