use Rattle.sot_law_trace_unique.proofs.OneHistory.{one_history}
use Rattle.sot_law_trace_unique.proofs.laws.traces_are_of_one_history.Goals as goal

pub returns : goal.returns
returns c = one_history
