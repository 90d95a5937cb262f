use Rattle.std.proofs.Common.{Some, pos, sym, ap, ◌∙◌}
use Rattle.sot_trace_lines.specs.Kept.{bounded, kept_numeral}
use Rattle.sot_trace_lines.proofs.piece.numeral_at.Goals as goal

pub returns-in-Some : goal.returns-in-Some
returns-in-Some c =
    ap (λ o. Some (o, c.in-Some.one.rest.now)) (c.above.ensures ∙ ap (λ k. bounded (pos k)) c.from.ensures) ∙ sym (ap kept_numeral c.in-Some.ensures.read)
