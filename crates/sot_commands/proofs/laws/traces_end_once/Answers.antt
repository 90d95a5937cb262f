use Rattle.sot_commands.proofs.TraceEnds.{traces_end_once}
use Rattle.sot_commands.proofs.laws.traces_end_once.Goals as goal

pub returns : goal.returns
returns c = traces_end_once
