-- Each reader meets what was written.
use Rattle.sot_certified_text.proofs.Written.{no_fault}
use Rattle.sot_certified_text.proofs.read_again.written_texts_have_no_fault.Goals as goal

pub returns : goal.returns
returns c = no_fault
