use Rattle.sot_law_guard_answers.proofs.Talks.{answered_once}
use Rattle.sot_law_guard_answers.proofs.laws.lines_are_answered_once.Goals as goal

pub returns : goal.returns
returns c = answered_once
