use Rattle.std.proofs.Common.{sym, ap, ◌∙◌, arith, w64}
use Rattle.std.specs.Fmt.{signed_decimal}
use Rattle.std.proofs.lemmas.Int.{to_z-of_z}
use Rattle.sot_trace.specs.Numbers.{signed_numeral}
use Rattle.sot_trace.proofs.Numerals.{signed_decimal_is}
use Rattle.sot_trace_lines.specs.Pieces.{behind}
use Rattle.sot_trace_lines.proofs.entry.behind_longer.Goals as goal

pub returns-in-Some : goal.returns-in-Some
returns-in-Some c =
    let text = sym c.in-Some.ensures.numeral ∙ ap signed_numeral (to_z-of_z w64 c.args.number c.ranges.number) in
    c.behind.ensures ∙ ap (λ front. behind front c.args.text.now) text

pub returns-in-None : goal.returns-in-None
returns-in-None c =
    let text = c.format.ensures.text ∙ ap signed_decimal (to_z-of_z w64 c.args.number c.ranges.number)
    ∙ signed_decimal_is c.args.number (omega (arith, c.ranges.number.sfits)) in
    c.behind-in-None.ensures ∙ ap (λ front. behind front c.args.text.now) (c.as_bytes.ensures.value ∙ text)
