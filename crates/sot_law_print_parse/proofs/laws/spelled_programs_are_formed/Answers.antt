use Rattle.sot_law_print_parse.proofs.FormedPrograms.{spelled_formed}
use Rattle.sot_law_print_parse.proofs.laws.spelled_programs_are_formed.Goals as goal

pub returns : goal.returns
returns c = spelled_formed
