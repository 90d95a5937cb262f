use Rattle.sot_parser.proofs.ProgramTexts.{spells_unique}
use Rattle.sot_parser.proofs.laws.programs_are_unique.Goals as goal

pub returns : goal.returns
returns c = spells_unique
