use Rattle.std.proofs.Common.{rules, arith, ◌<◌, length, FitsSigned, w64, sym, ap, ◌∙◌, Ok}
use Rattle.std.proofs.lemmas.List.{take_more_set}
use Rattle.std.proofs.lemmas.Result.{err_from_is_err_and}
use Rattle.sot_code.proofs.Filling.{read_word}
use Rattle.sot_code.proofs.Plants.{values_more, values_stop, have_at}
use Rattle.sot_code.proofs.plant.put_values.Goals as goal

pub value-requires : goal.value-requires
value-requires c =
    have_at (length c.args.numbers.now) c.args.terms.now c.loop-i.i c.index-terms-i.result c.requires.places c.loop-i-test.true c.index-terms-i.is

pub loop-i-preserved : goal.loop-i-preserved
loop-i-preserved c =
    let k = c.loop-i.invariant in
    let x = c.in_ok-point.field-0 in
    let fits : FitsSigned w64 x = search rules in
    let inside : c.loop-i.i < length c.loop-i.point = omega (arith, k.size, c.requires.size, c.loop-i-test.true) in
    record {
      size = search (rules, k.size);
      ends = rw (read_word x fits)
          (values_more c.args.numbers.now c.args.terms.now c.loop-i.i c.index-terms-i.result _ x c.loop-i-test.true c.index-terms-i.is k.ends
          (sym c.value.ensures ∙ c.in_ok-point.was)
          ∙ ap Ok (sym (take_more_set c.loop-i.point c.loop-i.i x inside)));
    }

pub returns-in_err-point-clause-ends : goal.returns-in_err-point-clause-ends
returns-in_err-point-clause-ends c =
    let q = err_from_is_err_and c.from_residual.result c.from_residual.ensures.1 in
    rw (q.1, q.2) (values_stop c.args.numbers.now c.args.terms.now c.loop-i.i c.index-terms-i.result _ _ c.loop-i-test.true c.index-terms-i.is
    c.loop-i.invariant.ends (sym c.value.ensures ∙ c.in_err-point.was))
