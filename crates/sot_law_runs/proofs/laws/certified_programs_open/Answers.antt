use Rattle.sot_law_runs.proofs.Openings.{certified_programs_open}
use Rattle.sot_law_runs.proofs.laws.certified_programs_open.Goals as goal

pub returns : goal.returns
returns c = certified_programs_open
