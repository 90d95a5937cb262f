-- What is well certified is not refused.
use Rattle.sot_certified_text.proofs.Written.{missions_passed}
use Rattle.sot_certified_text.proofs.read_again.written_missions_are_not_refused.Goals as goal

pub returns : goal.returns
returns c = missions_passed
