use Rattle.std.proofs.Common.{rules, arith, ◌≡◌, ◌+◌, ◌<◌, length, sym, ap, ◌∙◌, subst, Ok}
use Rattle.std.specs.Prelude.{Some}
use Rattle.std.proofs.lemmas.List.{append-nil, take_more_set}
use Rattle.std.proofs.lemmas.Option.{slice_get-get_or}
use Rattle.std.proofs.lemmas.Result.{err_from_is_err_and}
use Rattle.sot_lang.specs.TermPlaces.{HasPlaces}
use Rattle.sot_lang.proofs.Places.{HavePlaces-at}
use Rattle.sot_iv.specs.Evaluation.{term_interval}
use Rattle.sot_iv.proofs.PlantNames.{intervals_more, intervals_stop}
use Rattle.sot_iv.proofs.plant.put_intervals.Goals as goal

pub interval_of-requires : goal.interval_of-requires
interval_of-requires c =
    let names = length c.args.names.now in
    let t = c.index-terms-i.result in
    let at = slice_get-get_or c.args.terms.now c.loop-i.i t c.loop-i-test.true ∙ ap Some (sym c.index-terms-i.is) in
    let e : names ≡ names + 0 = omega arith in
    subst (λ n. HasPlaces n t) e (HavePlaces-at names c.args.terms.now c.loop-i.i t c.requires.places at)

pub loop-i-preserved : goal.loop-i-preserved
loop-i-preserved c =
    let k = c.loop-i.invariant in
    let x = c.in_ok-sides.field-0 in
    let now = sym (c.interval_of.ensures ∙ ap (term_interval c.index-terms-i.result) (append-nil c.args.names.now)) ∙ c.in_ok-sides.was in
    let inside : c.loop-i.i < length c.loop-i.sides = omega (arith, k.size, c.requires.size, c.loop-i-test.true) in
    record {
      size = search (rules, k.size);
      ends = intervals_more c.args.names.now c.args.terms.now c.loop-i.i c.index-terms-i.result _ x c.loop-i-test.true c.index-terms-i.is k.ends now
          ∙ ap Ok (sym (take_more_set c.loop-i.sides c.loop-i.i x inside));
    }

pub returns-in_err-sides-clause-ends : goal.returns-in_err-sides-clause-ends
returns-in_err-sides-clause-ends c =
    let q = err_from_is_err_and c.from_residual.result c.from_residual.ensures.1 in
    let now = sym (c.interval_of.ensures ∙ ap (term_interval c.index-terms-i.result) (append-nil c.args.names.now)) ∙ c.in_err-sides.was in
    rw (q.1, q.2) (intervals_stop c.args.names.now c.args.terms.now c.loop-i.i c.index-terms-i.result _ _ c.loop-i-test.true c.index-terms-i.is
    c.loop-i.invariant.ends now)
