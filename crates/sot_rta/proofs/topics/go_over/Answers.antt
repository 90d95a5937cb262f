use Rattle.std.proofs.Common.{arith, ℕ, ◌≡◌, length, refl, sym, ◌∙◌, subst, slice_index_or, IsTrue}
use Rattle.std.proofs.lemmas.Option.{slice_get_read, slice_get-get_or, slice_get_within, same_Some}
use Rattle.sot_lang.specs.declared.tables.ScalarInfo.{ScalarInfo}
use Rattle.sot_lists.specs.Places.{At}
use Rattle.sot_rta.specs.Topics.{AreSomeOf}
use Rattle.sot_rta.proofs.Steps.{one_more}
use Rattle.sot_rta.proofs.topics.go_over.Goals as goal

pub bounds-infos-scalar : goal.bounds-infos-scalar
bounds-infos-scalar c = c.requires.one _ (c.loop-i.i, slice_get-get_or c.args.some.now c.loop-i.i 0 c.loop-i-test.true)

pub bounds-infos-scalar-in-loop-i : goal.bounds-infos-scalar-in-loop-i
bounds-infos-scalar-in-loop-i c = c.requires.one _ (c.loop-i.i, slice_get-get_or c.args.some.now c.loop-i.i 0 c.loop-i-test.true)

pub loop-i-preserved : goal.loop-i-preserved
loop-i-preserved c =
    let at_k = slice_get-get_or c.args.some.now c.loop-i.i 0 c.loop-i-test.true in
    let k = slice_index_or c.args.some.now c.loop-i.i 0 in
    let at_info = slice_get_read c.args.infos.now (length c.args.infos.now) k c.index-infos-scalar.result refl (c.requires.one k (c.loop-i.i, at_k))
    c.index-infos-scalar.is in
    λ j m info lt at_j at_m.
    one_more (λ j. (m : ℕ) (info : ScalarInfo) → At c.args.some.now j m → At c.args.infos.now m info → AreSomeOf c.args.infos.now c.args.others.now info.topic)
    c.loop-i.i
    (λ j lt m info at_j at_m. c.loop-i.invariant j m info lt at_j at_m)
    (λ m info at_j at_m.
    let here : k ≡ m = same_Some k m (sym at_k ∙ at_j) in
    let is : c.index-infos-scalar.result ≡ info = same_Some _ _ (sym at_info ∙ subst (λ x. At c.args.infos.now x info) (sym here) at_m) in
    subst (λ (x : ScalarInfo). AreSomeOf c.args.infos.now c.args.others.now x.topic) (sym c.index-infos-scalar.is ∙ is)
    (c.are_some_of.ensures.0 (subst IsTrue (sym c.if-not-are_some_of.false) refl)))
    j lt m info at_j at_m

pub returns : goal.returns
returns c e t some =
    subst (λ x. AreSomeOf c.args.infos.now c.args.others.now x) some.2.2
    (c.loop-i.invariant some.1.0 some.0 some.2.0 (omega (arith, slice_get_within c.args.some.now some.1.0 some.0 some.1.1, c.loop-i-test.false)) some.1.1
    some.2.1)
