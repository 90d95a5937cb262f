use Rattle.std.proofs.Common.{◌<◌, length, refl, sym, ap, subst, ◌∙◌, arith}
use Rattle.std.specs.Prelude.{IsTrue}
use Rattle.std.proofs.lemmas.Option.{slice_get_read, slice_get_within}
use Rattle.std.proofs.lemmas.Bool.{false≢true}
use Rattle.sot_lists.specs.Places.{At}
use Rattle.sot_lists.proofs.Places.{at_same}
use Rattle.sot_lists.proofs.Numbers.{by_order}
use Rattle.sot_bridge.specs.Topics.{HasName}
use Rattle.sot_bridge.proofs.topics.topic_named.Goals as goal

pub loop-k-preserved : goal.loop-k-preserved
loop-k-preserved c = λ j lt named.
    let k = c.loop-k.k in
    let below : c.loop-k.k < length c.p.inside.topics.items = omega (arith, c.loop-k-test.true, c.len-k-end.ensures, c.p.inside.topics.ok.0) in
    let at =
    subst (λ t. At t.topics k c.index.result.now) c.p.view_is (slice_get_read c.p.inside.topics.items _ k c.index.result.now refl below c.index.ensures) in
    by_order j k (λ less. c.loop-k.invariant j less named) (λ more. absurd (omega (arith, lt, more)))
    (λ is. let info = at_same c.args.p.now.topics k _ _ (subst (λ n. At c.args.p.now.topics n named.0) is named.1) at in
    let yes : IsTrue c.has_name.result = c.has_name.ensures.1 (subst (HasName c.args.name.now c.args.outside) info named.2) in
    absurd (false≢true (sym c.if-has_name.false ∙ yes)))

pub returns : goal.returns
returns c = λ k named.
    let there = slice_get_within c.args.p.now.topics k named.0 named.1 in
    let size = ap (λ t. length t.topics) c.p.view_is in
    c.loop-k.invariant k (omega (arith, there, size, c.loop-k-test.false, c.len-k-end.ensures, c.loop-k.auto.k-end, c.p.inside.topics.ok.0)) named
