use Rattle.std.proofs.Common.{sym, ◌∙◌}
use Rattle.sot_trace_lines.proofs.KeptRows.{skipped_further}
use Rattle.sot_trace_lines.proofs.row.skip_further.Goals as goal

pub loop-i-preserved : goal.loop-i-preserved
loop-i-preserved c =
    let number = c.in_ok-rest.field-0 in
    skipped_further c.args.count c.loop-i._i c.loop-i.rest.now c.in_ok-behind.field-0.now number.value number.rest.now c.loop-i-test.true
    (sym c.in_ok-behind.ensures) (sym c.in_ok-rest.ensures)
    ∙ c.loop-i.invariant
