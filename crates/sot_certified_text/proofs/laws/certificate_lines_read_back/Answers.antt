use Rattle.sot_certified_text.proofs.LineBack.{line_back}
use Rattle.sot_certified_text.proofs.laws.certificate_lines_read_back.Goals as goal

pub returns : goal.returns
returns c = line_back
