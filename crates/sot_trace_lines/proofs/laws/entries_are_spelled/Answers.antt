use Rattle.sot_trace_lines.proofs.ReadLines.{entries_spelled}
use Rattle.sot_trace_lines.proofs.laws.entries_are_spelled.Goals as goal

pub returns : goal.returns
returns c = entries_spelled
