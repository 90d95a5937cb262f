use Rattle.std.proofs.Common.{rules, arith, ℕ, ◌≡◌, length, refl, sym, ◌∙◌, subst, slice_index_or}
use Rattle.std.proofs.lemmas.Bool.{false≢true}
use Rattle.std.proofs.lemmas.Option.{slice_get_read, slice_get-get_or, slice_get_within, same_Some}
use Rattle.sot_lang.specs.declared.tables.ScalarInfo.{ScalarInfo}
use Rattle.sot_lists.specs.Places.{At}
use Rattle.sot_rta.proofs.Steps.{one_more}
use Rattle.sot_rta.proofs.topics.are_some_of.Goals as goal

pub bounds-infos-scalar : goal.bounds-infos-scalar
bounds-infos-scalar c = c.requires _ (c.loop-i.i, slice_get-get_or c.args.scalars.now c.loop-i.i 0 c.loop-i-test.true)

pub bounds-infos-scalar-in-loop-i : goal.bounds-infos-scalar-in-loop-i
bounds-infos-scalar-in-loop-i c = c.requires _ (c.loop-i.i, slice_get-get_or c.args.scalars.now c.loop-i.i 0 c.loop-i-test.true)

pub returns-then-infos-scalar : goal.returns-then-infos-scalar
returns-then-infos-scalar c =
    let at_k = slice_get-get_or c.args.scalars.now c.loop-i.i 0 c.loop-i-test.true in
    let k = slice_index_or c.args.scalars.now c.loop-i.i 0 in
    let at_info = slice_get_read c.args.infos.now (length c.args.infos.now) k c.index-infos-scalar.result refl (c.requires k (c.loop-i.i, at_k))
    c.index-infos-scalar.is in
    ((λ f. (k, (c.loop-i.i, at_k), (c.index-infos-scalar.result, at_info, search rules))), (λ some. refl))

pub loop-i-preserved : goal.loop-i-preserved
loop-i-preserved c =
    let at_k = slice_get-get_or c.args.scalars.now c.loop-i.i 0 c.loop-i-test.true in
    let k = slice_index_or c.args.scalars.now c.loop-i.i 0 in
    let at_info = slice_get_read c.args.infos.now (length c.args.infos.now) k c.index-infos-scalar.result refl (c.requires k (c.loop-i.i, at_k))
    c.index-infos-scalar.is in
    λ j m info lt at_j at_m same.
    one_more (λ j. (m : ℕ) (info : ScalarInfo) → At c.args.scalars.now j m → At c.args.infos.now m info → info.topic ≡ c.args.topic → ⊥) c.loop-i.i
    (λ j lt m info at_j at_m same. c.loop-i.invariant j m info lt at_j at_m same)
    (λ m info at_j at_m same.
    let here : k ≡ m = same_Some k m (sym at_k ∙ at_j) in
    let is : c.index-infos-scalar.result ≡ info = same_Some _ _ (sym at_info ∙ subst (λ x. At c.args.infos.now x info) (sym here) at_m) in
    search (rules, is, same))
    j lt m info at_j at_m same

pub returns : goal.returns
returns c = (
  (λ f. absurd (false≢true f)),
  (λ some. absurd (c.loop-i.invariant some.1.0 some.0 some.2.0
      (omega (arith, slice_get_within c.args.scalars.now some.1.0 some.0 some.1.1, c.loop-i-test.false)) some.1.1 some.2.1 some.2.2)),
)
