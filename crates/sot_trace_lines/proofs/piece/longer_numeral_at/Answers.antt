use Rattle.std.proofs.Common.{ℕ, List, Some, ap, ◌∙◌}
use Rattle.sot_text.specs.Lexeme.{value}
use Rattle.sot_trace_lines.specs.Pieces.{◌>>=◌}
use Rattle.sot_trace_lines.specs.Kept.{kept_numeral}
use Rattle.sot_trace_lines.proofs.Magnitudes.{positive_counted}
use Rattle.sot_trace_lines.proofs.piece.longer_numeral_at.Goals as goal

pub returns : goal.returns
returns c =
    let read = c.in_ok-read.read in
    ap (λ o. Some (o, read.rest.now)) (c.above.ensures ∙ positive_counted (value read.digits.now) c.magnitude.result c.magnitude.ensures)
    ∙ ap (λ o. kept_numeral (o >>= λ (d : List ℕ × List ℕ). Some (value d.0, d.1))) c.in_ok-read.ensures
