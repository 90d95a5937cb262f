use Rattle.std.proofs.Common.{◌+◌, ◌-◌, ◌*◌, ◌^◌, min, drop, ◌∙◌, sym, get_or, arith}
use Rattle.std.proofs.lemmas.List.{at_drop_more}
use Rattle.sot_text.specs.Lexeme.{with_digits}
use Rattle.sot_trace_lines.proofs.Magnitudes.{same_counted}
use Rattle.sot_trace_lines.proofs.piece.magnitude.Goals as goal

pub loop-digit-preserved : goal.loop-digit-preserved
loop-digit-preserved c =
    let i = c.loop-digit.digit-index in
    let d = get_or c.args.digits.now i 0 in
    let rest = drop (i + 1) c.args.digits.now in
    record {
      small = omega (arith, c.saturating_add-sum.ensures);
      same =
          same_counted c.saturating_add-sum.result (10 * c.loop-digit.sum + (d - 48)) rest
          (omega (arith, c.from-more.ensures, c.saturating_sub.ensures, c.saturating_mul.ensures, c.saturating_add-sum.ensures))
          ∙ sym (at_drop_more (λ l. min (with_digits c.loop-digit.sum l) (2 ^ 64 - 1)) c.args.digits.now i 0 c.loop-digit-test.true)
          ∙ c.loop-digit.invariant.same;
    }
