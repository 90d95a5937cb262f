use Rattle.std.proofs.Common.{◌≡◌, ◌+◌, ◌-◌, ◌≤◌}
use Rattle.std.specs.Prelude.{vec_len, vec_capacity}
use Rattle.sot_trace_lines.specs.Pieces.{further_at}
use Rattle.sot_trace_lines.specs.Kept.{kept_row}
use Rattle.sot_trace_lines.proofs.row.further_at.Given as goal

abbrev pub invariant-loop-i : goal.invariant-loop-i
invariant-loop-i l = record {
  read : kept_row (l.numbers.items, l.whole) (further_at (l.count - l._i) l.rest) ≡ kept_row (l.fn.numbers.items, l.fn.whole) (further_at l.count l.text);
  within : l._i ≤ l.count;
  len : vec_len l.numbers ≤ vec_len l.fn.numbers + l._i;
  capacity : vec_capacity l.fn.numbers ≤ vec_capacity l.numbers;
}
