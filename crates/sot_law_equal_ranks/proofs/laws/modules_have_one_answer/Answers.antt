use Rattle.sot_law_equal_ranks.proofs.Ranks.{one_answer}
use Rattle.sot_law_equal_ranks.proofs.laws.modules_have_one_answer.Goals as goal

pub returns : goal.returns
returns c = one_answer
