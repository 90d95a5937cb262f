use Rattle.std.proofs.Common.{◌≡◌, drop}
use Rattle.sot_trace_lines.specs.Entries.{behind_further}
use Rattle.sot_trace_lines.proofs.entry.behind_further.Given as goal

abbrev pub invariant-loop-number : goal.invariant-loop-number
invariant-loop-number l = behind_further (drop l.number-index l.more) l.rest ≡ behind_further l.fn.more l.fn.text
