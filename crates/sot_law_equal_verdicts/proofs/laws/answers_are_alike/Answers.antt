-- Each condition, and what is found for each list, is carried from one table to the other.
use Rattle.sot_law_equal_verdicts.proofs.Answers.{answers_alike}
use Rattle.sot_law_equal_verdicts.proofs.laws.answers_are_alike.Goals as goal

pub returns : goal.returns
returns c = answers_alike
