use Rattle.std.proofs.Common.{Some, sym, ap, ◌∙◌, arith}
use Rattle.sot_trace_lines.specs.Pieces.{◌>>=◌, minus}
use Rattle.sot_trace_lines.specs.Kept.{kept_number}
use Rattle.sot_trace_lines.proofs.Magnitudes.{none_below, below_is}
use Rattle.sot_trace_lines.proofs.piece.below_one_digit.Goals as goal

pub returns-then-digit-eq0 : goal.returns-then-digit-eq0
returns-then-digit-eq0 c text read = none_below text c.args.rest.now c.args.digit c.if-digit-eq0.true read

pub returns : goal.returns
returns c text read =
    sym (
    ap (λ o. kept_number (o >>= λ d. minus d.0 >>= λ z. Some (z, d.1))) read
    ∙ below_is c.args.digit c.from.result c.below.result c.args.rest.now (omega (arith, c.from.ensures, c.requires))
    (λ none. c.if-digit-eq0.false (sym c.from.ensures ∙ none)) c.below.ensures
    )
