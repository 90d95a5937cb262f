use Rattle.std.proofs.Common.{◌+◌, ◌<◌, ◌<ℤ◌, length, drop, refl, ap, ◌∙◌, subst, arith, rules, FitsSigned, w64}
use Rattle.std.proofs.lemmas.Int.{ints}
use Rattle.std.proofs.lemmas.Option.{slice_get_read, slice_get_within}
use Rattle.sot_lists.specs.Places.{At}
use Rattle.sot_lists.proofs.Places.{at_map}
use Rattle.sot_box.specs.Sides.{Side}
use Rattle.sot_lang.specs.Ranges.{scalar_ranges}
use Rattle.sot_code.proofs.Filling.{read_word}
use Rattle.sot_flight.proofs.RangeLists.{range_more, at_dropped}
use Rattle.sot_flight.proofs.ranges.ranges_of_topic.Goals as goal

pub index-scalar-requires : goal.index-scalar-requires
index-scalar-requires c =
    let info = c.index-info.result.now in
    let below : c.args.topic < length c.p.inside.topics.items = omega (arith, c.requires, ap (λ t. length t.topics) c.p.view_is) in
    let at = slice_get_read c.p.inside.topics.items _ c.args.topic info refl below c.index-info.ensures in
    let scalar = c.p.invariant.typed.topic_scalar c.args.topic (info.first + c.loop-i.i) info at (omega arith) (omega (arith, c.loop-i-test.true)) in
    let there = slice_get_within c.p.inside.scalars.items (info.first + c.loop-i.i) scalar.0 scalar.1 in
    omega (arith, there, c.p.inside.scalars.ok.0)

pub unreachable-requires : goal.unreachable-requires
unreachable-requires c =
    let info = c.index-info.result.now in
    let scalar = c.index-scalar.result.now in
    let low : FitsSigned w64 scalar.lo = search rules in
    let high : FitsSigned w64 scalar.hi = search rules in
    let below : c.args.topic < length c.p.inside.topics.items = omega (arith, c.requires, ap (λ t. length t.topics) c.p.view_is) in
    let at = slice_get_read c.p.inside.topics.items _ c.args.topic info refl below c.index-info.ensures in
    let there = c.p.invariant.typed.topic_scalar c.args.topic (info.first + c.loop-i.i) info at (omega arith) (omega (arith, c.loop-i-test.true)) in
    let inside = slice_get_within c.p.inside.scalars.items (info.first + c.loop-i.i) there.0 there.1 in
    let scalar_at = slice_get_read c.p.inside.scalars.items _ (info.first + c.loop-i.i) scalar refl inside c.index-scalar.ensures in
    let ordered = (c.p.invariant.scalars (info.first + c.loop-i.i) scalar scalar_at).range.0 in
    let less : scalar.hi <ℤ scalar.lo = rw (read_word scalar.lo low, read_word scalar.hi high) at c.in-None.ensures in
    omega (arith, ints, ordered, less)

pub loop-i-preserved : goal.loop-i-preserved
loop-i-preserved c =
    let info = c.index-info.result.now in
    let scalar = c.index-scalar.result.now in
    let low : FitsSigned w64 scalar.lo = search rules in
    let high : FitsSigned w64 scalar.hi = search rules in
    let below : c.args.topic < length c.p.inside.topics.items = omega (arith, c.requires, ap (λ t. length t.topics) c.p.view_is) in
    let at = slice_get_read c.p.inside.topics.items _ c.args.topic info refl below c.index-info.ensures in
    let there = c.p.invariant.typed.topic_scalar c.args.topic (info.first + c.loop-i.i) info at (omega arith) (omega (arith, c.loop-i-test.true)) in
    let inside = slice_get_within c.p.inside.scalars.items (info.first + c.loop-i.i) there.0 there.1 in
    let scalar_at = subst (λ t. At t.scalars (info.first + c.loop-i.i) scalar) c.p.view_is
    (slice_get_read c.p.inside.scalars.items _ (info.first + c.loop-i.i) scalar refl inside c.index-scalar.ensures) in
    let range = at_map (λ i. let s : Side = record { lo = i.lo; hi = i.hi } in s) c.args.p.now.scalars (info.first + c.loop-i.i) scalar scalar_at in
    let is = c.in-Some.ensures in
    c.in_ok-push-in-Some.ensures.items
    ∙ range_more c.loop-i.found.items (drop info.first (scalar_ranges c.args.p.now)) c.loop-i.i c.in-Some.range _
    (at_dropped (scalar_ranges c.args.p.now) info.first c.loop-i.i _ range) c.loop-i.invariant (is.0 ∙ read_word scalar.lo low)
    (is.1 ∙ read_word scalar.hi high)
