use Rattle.sot_certified_text.proofs.Lines.{lines_plain}
use Rattle.sot_certified_text.proofs.laws.certificate_lines_are_plain.Goals as goal

pub returns : goal.returns
returns c = lines_plain
