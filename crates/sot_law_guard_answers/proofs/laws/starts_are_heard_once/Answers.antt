use Rattle.sot_law_guard_answers.proofs.Starts.{starts_once}
use Rattle.sot_law_guard_answers.proofs.laws.starts_are_heard_once.Goals as goal

pub returns : goal.returns
returns c = starts_once
