use Rattle.std.proofs.Common.{ap, ◌∙◌, arith}
use Rattle.sot_trace.proofs.Numerals.{decimal_is}
use Rattle.sot_trace_lines.specs.Pieces.{behind}
use Rattle.sot_trace_lines.proofs.entry.behind_time.Goals as goal

pub returns : goal.returns
returns c =
    let text = c.format.ensures.text ∙ decimal_is c.args.time (omega (arith, c.ranges.time.fits)) in
    c.behind.ensures ∙ ap (λ front. behind front c.args.text.now) (c.as_bytes.ensures.value ∙ text)
