use Rattle.sot_guard_protocol.proofs.Conversing.{comes_back}
use Rattle.sot_guard_protocol.proofs.laws.trust_comes_back_by_a_resume.Goals as goal

pub returns : goal.returns
returns c = comes_back
