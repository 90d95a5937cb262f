use Rattle.std.proofs.Common.{sym, ap, ◌∙◌, w64}
use Rattle.std.proofs.lemmas.Int.{to_z-of_z}
use Rattle.sot_trace.specs.Numbers.{signed_numeral}
use Rattle.sot_trace_lines.specs.Pieces.{behind}
use Rattle.sot_trace_lines.proofs.entry.behind_number.Goals as goal

pub returns-in-Some : goal.returns-in-Some
returns-in-Some c =
    let text = sym c.in-Some.ensures.numeral ∙ ap signed_numeral (to_z-of_z w64 c.args.number c.ranges.number) in
    c.behind_byte.ensures ∙ ap (λ front. behind front c.args.text.now) text
