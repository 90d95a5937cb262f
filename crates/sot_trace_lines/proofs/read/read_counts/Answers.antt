use Rattle.std.proofs.Common.{◌≢◌, length, sym, rules}
use Rattle.sot_trace_lines.specs.Readers.{counts_at}
use Rattle.sot_trace_lines.proofs.ShownLines.{nothing, not_empty, counts_go_on}
use Rattle.sot_trace_lines.proofs.read.read_counts.Goals as goal

pub returns-then-not-is_empty : goal.returns-then-not-is_empty
returns-then-not-is_empty c =
    let ticks = c.in_ok-ticks.ticks in
    let events = c.in_ok-events.events in
    let refused = c.in_ok-refused.refused in
    let some : length refused.rest.now ≢ 0 = search rules in
    λ list. nothing list (counts_at c.args.text.now)
    (counts_go_on c.args.text.now ticks.rest.now c.in_ok-behind.field-0.now events.rest.now c.in_ok-behind-2.field-0.now refused.rest.now ticks.value
    events.value refused.value
    (sym c.in_ok-ticks.ensures) (sym c.in_ok-behind.ensures) (sym c.in_ok-events.ensures) (sym c.in_ok-behind-2.ensures) (sym c.in_ok-refused.ensures)
    (not_empty refused.rest.now some))
