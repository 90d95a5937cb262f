use Rattle.std.proofs.Common.{◌<◌, Some, length, refl, sym, ap, subst, ◌∙◌, arith}
use Rattle.std.specs.Prelude.{slice_index_or}
use Rattle.std.proofs.lemmas.Option.{slice_get_read, get_or_from_slice_get}
use Rattle.sot_lists.specs.Places.{At}
use Rattle.sot_lists.proofs.Places.{at_below}
use Rattle.sot_bridge.proofs.Writers.{topic_is, has_more, has_here}
use Rattle.sot_bridge.proofs.counting.has_topic.Goals as goal

pub index-requires : goal.index-requires
index-requires c =
    let ks = c.args.scalars.now in
    let i = c.loop-k.k-index in
    let k = slice_index_or ks i 0 in
    let one = at_below ks i c.loop-k-test.true in
    let at : At ks i k = one.1 ∙ ap Some (sym (get_or_from_slice_get ks i one.0 0 one.1)) in
    let there = c.requires k (i, at) in
    omega (arith, there, ap (λ t. length t.scalars) c.p.view_is, c.p.inside.scalars.ok.0)

pub returns-then-index-topic : goal.returns-then-index-topic
returns-then-index-topic c =
    let ks = c.args.scalars.now in
    let i = c.loop-k.k-index in
    let k = slice_index_or ks i 0 in
    let one = at_below ks i c.loop-k-test.true in
    let at : At ks i k = one.1 ∙ ap Some (sym (get_or_from_slice_get ks i one.0 0 one.1)) in
    let there = c.requires k (i, at) in
    let below : k < length c.p.inside.scalars.items = omega (arith, there, ap (λ t. length t.scalars) c.p.view_is) in
    let scalar =
    subst (λ t. At t.scalars k c.index.result.now) c.p.view_is (slice_get_read c.p.inside.scalars.items _ k c.index.result.now refl below c.index.ensures) in
    has_here c.args.p.now c.args.topic ks i k _ at (topic_is c.args.p.now k _ scalar ∙ c.if-index-topic.true) c.loop-k.invariant

pub loop-k-preserved : goal.loop-k-preserved
loop-k-preserved c =
    let ks = c.args.scalars.now in
    let i = c.loop-k.k-index in
    let k = slice_index_or ks i 0 in
    let one = at_below ks i c.loop-k-test.true in
    let at : At ks i k = one.1 ∙ ap Some (sym (get_or_from_slice_get ks i one.0 0 one.1)) in
    let there = c.requires k (i, at) in
    let below : k < length c.p.inside.scalars.items = omega (arith, there, ap (λ t. length t.scalars) c.p.view_is) in
    let scalar =
    subst (λ t. At t.scalars k c.index.result.now) c.p.view_is (slice_get_read c.p.inside.scalars.items _ k c.index.result.now refl below c.index.ensures) in
    has_more c.args.p.now c.args.topic ks i k _ at (λ same. c.if-index-topic.false (sym (topic_is c.args.p.now k _ scalar) ∙ same)) c.loop-k.invariant
