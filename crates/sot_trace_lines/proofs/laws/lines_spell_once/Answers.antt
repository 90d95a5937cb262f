use Rattle.sot_trace_lines.proofs.ReadLines.{spelled_once}
use Rattle.sot_trace_lines.proofs.laws.lines_spell_once.Goals as goal

pub returns : goal.returns
returns c = spelled_once
