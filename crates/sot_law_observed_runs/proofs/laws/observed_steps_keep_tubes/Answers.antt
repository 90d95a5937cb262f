use Rattle.sot_law_observed_runs.proofs.Main.{openings, steps}
use Rattle.sot_law_observed_runs.proofs.laws.observed_steps_keep_tubes.Goals as goal

pub returns : goal.returns
returns c = record {
  opening = openings;
  step = steps;
}
