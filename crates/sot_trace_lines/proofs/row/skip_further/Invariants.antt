use Rattle.std.proofs.Common.{◌≡◌, ◌-◌}
use Rattle.sot_trace_lines.specs.Pieces.{further_at}
use Rattle.sot_trace_lines.specs.Kept.{rest_of}
use Rattle.sot_trace_lines.proofs.row.skip_further.Given as goal

abbrev pub invariant-loop-i : goal.invariant-loop-i
invariant-loop-i l = rest_of (further_at (l.count - l._i) l.rest) ≡ rest_of (further_at l.count l.text)
