use Rattle.std.proofs.Common.{◌≡◌, ℕ, List, ◌+◌, ◌<◌, ◌≤◌, length, true, false, refl, sym, ap, subst, ◌∙◌, arith}
use Rattle.std.proofs.lemmas.Bool.{false≢true}
use Rattle.std.proofs.lemmas.Option.{slice_get_read, slice_get_within}
use Rattle.sot_lists.specs.Places.{At}
use Rattle.sot_lang.specs.declared.tables.TopicInfo.{TopicInfo}
use Rattle.sot_lang.specs.declared.tables.ScalarInfo.{ScalarInfo}
use Rattle.sot_lists.proofs.Places.{at_same, read_at}
use Rattle.sot_lists.proofs.Numbers.{by_order}
use Rattle.sot_bridge.specs.Topics.{Suits, Match}
use Rattle.sot_bridge.proofs.topics.topics_match.Goals as goal

-- a scalar of a topic is there
x_within : (topics : List TopicInfo) (scalars : List ScalarInfo) (t : ℕ) (info : TopicInfo) (i : ℕ)
    → ((k : ℕ) (topic : TopicInfo) → At topics t topic → topic.first ≤ k → k < topic.first + topic.count → (s : ScalarInfo) × At scalars k s × (s.topic ≡ t))
    → At topics t info → i < info.count → info.first + i < length scalars
x_within topics scalars t info i rule at lt =
    let scalar = rule (info.first + i) info at (omega arith) (omega (arith, lt)) in
    slice_get_within scalars (info.first + i) scalar.0 scalar.1

pub index-x-requires : goal.index-x-requires
index-x-requires c =
    let info = c.index.result.now in
    let below : c.args.from < length c.p.inside.topics.items = omega (arith, c.requires.from, ap (λ t. length t.topics) c.p.view_is) in
    let at = slice_get_read c.p.inside.topics.items _ c.args.from info refl below c.index.ensures in
    let scalar = c.p.invariant.typed.topic_scalar c.args.from (info.first + c.loop-i.i) info at (omega arith) (omega (arith, c.loop-i-test.true)) in
    let there = slice_get_within c.p.inside.scalars.items (info.first + c.loop-i.i) scalar.0 scalar.1 in
    omega (arith, there, c.p.inside.scalars.ok.0)

pub index-y-requires : goal.index-y-requires
index-y-requires c =
    let info = c.index-2.result.now in
    let below : c.args.to < length c.q.inside.topics.items = omega (arith, c.requires.to, ap (λ t. length t.topics) c.q.view_is) in
    let at = slice_get_read c.q.inside.topics.items _ c.args.to info refl below c.index-2.ensures in
    let scalar =
    c.q.invariant.typed.topic_scalar c.args.to (info.first + c.loop-i.i) info at (omega arith) (omega (arith, c.loop-i-test.true, c.if-a-b.false)) in
    let there = slice_get_within c.q.inside.scalars.items (info.first + c.loop-i.i) scalar.0 scalar.1 in
    omega (arith, there, c.q.inside.scalars.ok.0)

pub returns-then-not-suits : goal.returns-then-not-suits
returns-then-not-suits c = λ a b at_a at_b match.
    let p = c.args.p.now in
    let q = c.args.q.now in
    let i = c.loop-i.i in
    let x = c.index-x.result.now in
    let y = c.index-y.result.now in
    let from =
    at_same p.topics c.args.from _ _ (read_at _ _ c.args.from c.index.result.now (ap (λ t. t.topics) c.p.view_is) c.requires.from c.index.ensures) at_a in
    let to =
    at_same q.topics c.args.to _ _ (read_at _ _ c.args.to c.index-2.result.now (ap (λ t. t.topics) c.q.view_is) c.requires.to c.index-2.ensures) at_b in
    let x_below : c.index.result.now.first + c.loop-i.i < length c.p.inside.scalars.items = x_within c.p.inside.topics.items c.p.inside.scalars.items
    c.args.from c.index.result.now c.loop-i.i (λ k info at low high. c.p.invariant.typed.topic_scalar c.args.from k info at low high)
    (slice_get_read c.p.inside.topics.items _ c.args.from c.index.result.now refl (omega (arith, c.requires.from, ap (λ t. length t.topics) c.p.view_is))
    c.index.ensures) c.loop-i-test.true in
    let y_below : c.index-2.result.now.first + c.loop-i.i < length c.q.inside.scalars.items = x_within c.q.inside.topics.items c.q.inside.scalars.items
    c.args.to c.index-2.result.now c.loop-i.i (λ k info at low high. c.q.invariant.typed.topic_scalar c.args.to k info at low high)
    (slice_get_read c.q.inside.topics.items _ c.args.to c.index-2.result.now refl (omega (arith, c.requires.to, ap (λ t. length t.topics) c.q.view_is))
    c.index-2.ensures) (omega (arith, c.loop-i-test.true, c.if-a-b.false)) in
    let at_x =
    subst (λ t. At t.scalars (c.index.result.now.first + i) x) c.p.view_is (slice_get_read c.p.inside.scalars.items _ _ x refl x_below c.index-x.ensures) in
    let at_y =
    subst (λ t. At t.scalars (c.index-2.result.now.first + i) y) c.q.view_is (slice_get_read c.q.inside.scalars.items _ _ y refl y_below c.index-y.ensures) in
    let lt : i < a.count = omega (arith, c.loop-i-test.true, ap (λ t. t.count) from) in
    let suits = match.each i x y lt (subst (λ t. At p.scalars (t.first + i) x) from at_x) (subst (λ t. At q.scalars (t.first + i) y) to at_y) in
    let both : false ≡ true = sym c.if-not-suits.true ∙ c.suits.ensures.1 suits in
    absurd (false≢true both)

pub loop-i-preserved : goal.loop-i-preserved
loop-i-preserved c = λ j u v lt at_u at_v.
    let p = c.args.p.now in
    let q = c.args.q.now in
    let i = c.loop-i.i in
    let x = c.index-x.result.now in
    let y = c.index-y.result.now in
    let x_below : c.index.result.now.first + c.loop-i.i < length c.p.inside.scalars.items = x_within c.p.inside.topics.items c.p.inside.scalars.items
    c.args.from c.index.result.now c.loop-i.i (λ k info at low high. c.p.invariant.typed.topic_scalar c.args.from k info at low high)
    (slice_get_read c.p.inside.topics.items _ c.args.from c.index.result.now refl (omega (arith, c.requires.from, ap (λ t. length t.topics) c.p.view_is))
    c.index.ensures) c.loop-i-test.true in
    let y_below : c.index-2.result.now.first + c.loop-i.i < length c.q.inside.scalars.items = x_within c.q.inside.topics.items c.q.inside.scalars.items
    c.args.to c.index-2.result.now c.loop-i.i (λ k info at low high. c.q.invariant.typed.topic_scalar c.args.to k info at low high)
    (slice_get_read c.q.inside.topics.items _ c.args.to c.index-2.result.now refl (omega (arith, c.requires.to, ap (λ t. length t.topics) c.q.view_is))
    c.index-2.ensures) (omega (arith, c.loop-i-test.true, c.if-a-b.false)) in
    let at_x =
    subst (λ t. At t.scalars (c.index.result.now.first + i) x) c.p.view_is (slice_get_read c.p.inside.scalars.items _ _ x refl x_below c.index-x.ensures) in
    let at_y =
    subst (λ t. At t.scalars (c.index-2.result.now.first + i) y) c.q.view_is (slice_get_read c.q.inside.scalars.items _ _ y refl y_below c.index-y.ensures) in
    by_order j i (λ less. c.loop-i.invariant j u v less at_u at_v) (λ more. absurd (omega (arith, lt, more)))
    (λ is. let same_x = at_same p.scalars (c.index.result.now.first + i) _ _ at_x (subst (λ n. At p.scalars (c.index.result.now.first + n) u) is at_u) in
    let same_y = at_same q.scalars (c.index-2.result.now.first + i) _ _ at_y (subst (λ n. At q.scalars (c.index-2.result.now.first + n) v) is at_v) in
    subst (λ w. Suits w v) same_x (subst (λ w. Suits x w) same_y (c.suits.ensures.0 c.if-not-suits.false)))

pub returns : goal.returns
returns c = λ a b at_a at_b.
    let p = c.args.p.now in
    let q = c.args.q.now in
    let from =
    at_same p.topics c.args.from _ _ (read_at _ _ c.args.from c.index.result.now (ap (λ t. t.topics) c.p.view_is) c.requires.from c.index.ensures) at_a in
    let to =
    at_same q.topics c.args.to _ _ (read_at _ _ c.args.to c.index-2.result.now (ap (λ t. t.topics) c.q.view_is) c.requires.to c.index-2.ensures) at_b in
    let all : Match p q c.index.result.now c.index-2.result.now = record {
      count = c.if-a-b.false;
      each = λ i x y lt at_x at_y. c.loop-i.invariant i x y (omega (arith, lt, c.loop-i-test.false)) at_x at_y;
    } in
    subst (λ t. Match p q t b) from (subst (λ t. Match p q c.index.result.now t) to all)
