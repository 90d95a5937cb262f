use Rattle.sot_guard.proofs.Talks.{since}
use Rattle.sot_guard.proofs.laws.trust_comes_back_by_a_resume.Goals as goal

pub returns : goal.returns
returns c = since
