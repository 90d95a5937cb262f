use Rattle.std.proofs.Common.{◌≡◌, ◌∙◌, ◌<◌, Some, map, sym, ap, subst, arith, rules, FitsSigned, w64}
use Rattle.std.specs.Prelude.{slice_set}
use Rattle.std.proofs.lemmas.List.{length-map}
use Rattle.sot_lists.specs.Places.{At}
use Rattle.sot_lists.proofs.Places.{read_at, at_map}
use Rattle.sot_lang.specs.TableRules.{MeetsTableRules}
use Rattle.sot_lang.proofs.Topics.{topic_inside}
use Rattle.sot_code.proofs.Filling.{read_word, put_more}
use Rattle.sot_formula.proofs.Counts.{few_scalars}
use Rattle.sot_flight.specs.Relayed.{drafted}
use Rattle.sot_flight.proofs.EightSlots.{put_all}
use Rattle.sot_bridge.specs.SendLaws.{value_of}
use Rattle.sot_bridge.proofs.Slots.{value_length, value_slot, drafted_slots}
use Rattle.sot_bridge.proofs.history.value_in.Goals as goal

pub overflow_add-info : goal.overflow_add-info
overflow_add-info c =
    let kept = subst MeetsTableRules c.p.view_is c.p.invariant in
    let info = c.index-info.result.now in
    let at = read_at _ _ c.args.topic info (ap (λ t. t.topics) c.p.view_is) c.requires.topic c.index-info.ensures in
    let inside = topic_inside c.args.p.now kept c.args.topic info at in
    let few = few_scalars c.args.p.now kept in
    omega (arith, inside, few, c.loop-i-test.true)

pub scalar-requires : goal.scalar-requires
scalar-requires c =
    let kept = subst MeetsTableRules c.p.view_is c.p.invariant in
    let info = c.index-info.result.now in
    let at = read_at _ _ c.args.topic info (ap (λ t. t.topics) c.p.view_is) c.requires.topic c.index-info.ensures in
    let inside = topic_inside c.args.p.now kept c.args.topic info at in
    let size = c.requires.scene.scalars in
    omega (arith, inside, size, c.loop-i-test.true)

pub set-requires : goal.set-requires
set-requires c =
    let kept = subst MeetsTableRules c.p.view_is c.p.invariant in
    let info = c.index-info.result.now in
    let at = read_at _ _ c.args.topic info (ap (λ t. t.topics) c.p.view_is) c.requires.topic c.index-info.ensures in
    let few = (kept.topics c.args.topic info at).1 in
    omega (arith, few, c.loop-i-test.true)

pub loop-i-preserved : goal.loop-i-preserved
loop-i-preserved c =
    let p = c.args.p.now in
    let kept = subst MeetsTableRules c.p.view_is c.p.invariant in
    let info = c.index-info.result.now in
    let at = read_at _ _ c.args.topic info (ap (λ t. t.topics) c.p.view_is) c.requires.topic c.index-info.ensures in
    let xs = c.args.scene.now.scalars in
    let vs = value_of p c.args.topic xs in
    let i = c.loop-i.i in
    let z = c.scalar.result in
    let few = (kept.topics c.args.topic info at).1 in
    let lt : i < 8 = omega (arith, few, c.loop-i-test.true) in
    let fits : FitsSigned w64 z = search rules in
    let number_at : At vs i z = value_slot p kept c.args.topic info at xs c.requires.scene.scalars i c.loop-i-test.true ∙ ap Some (sym c.scalar.ensures) in
    c.set.ensures ∙ ap (λ y. slice_set c.loop-i.value i (Some y)) (read_word z fits) ∙ ap (λ d. slice_set d i (Some z)) c.loop-i.invariant
    ∙ put_more (map Some vs) i (Some z) (at_map Some vs i z number_at) lt

pub returns : goal.returns
returns c =
    let p = c.args.p.now in
    let kept = subst MeetsTableRules c.p.view_is c.p.invariant in
    let info = c.index-info.result.now in
    let at = read_at _ _ c.args.topic info (ap (λ t. t.topics) c.p.view_is) c.requires.topic c.index-info.ensures in
    let xs = c.args.scene.now.scalars in
    let vs = value_of p c.args.topic xs in
    let size = length-map vs Some ∙ value_length p kept c.args.topic info at xs c.requires.scene.scalars in
    let all : c.loop-i.i ≡ info.count = omega (arith, c.loop-i.auto.i-end, c.loop-i-test.false) in
    ap drafted (c.loop-i.invariant ∙ put_all (map Some vs) c.loop-i.i (all ∙ sym size)) ∙ drafted_slots vs
