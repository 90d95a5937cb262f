use Rattle.sot_law_runs.proofs.Openings.{points_open, openings_are_unique}
use Rattle.sot_law_runs.proofs.laws.points_have_one_opening.Goals as goal

pub returns : goal.returns
returns c = record { some = points_open; one = openings_are_unique }
