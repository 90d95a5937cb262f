use Rattle.std.proofs.Common.{sym, ap, ◌∙◌}
use Rattle.sot_text.specs.Lexeme.{value}
use Rattle.sot_trace_lines.specs.Kept.{kept_number}
use Rattle.sot_trace_lines.proofs.Magnitudes.{negative_of, below_is}
use Rattle.sot_trace_lines.proofs.piece.longer_negative_at.Goals as goal

pub returns : goal.returns
returns c =
    let read = c.in_ok-read.read in
    sym (below_is (value read.digits.now) c.magnitude-magnitude.result c.below.result read.rest.now c.magnitude-magnitude.ensures c.if-magnitude-eq0.false
    c.below.ensures)
    ∙ ap (λ o. kept_number (negative_of o)) c.in_ok-read.ensures
