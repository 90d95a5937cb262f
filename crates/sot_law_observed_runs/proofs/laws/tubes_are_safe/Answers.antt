use Rattle.sot_law_observed_runs.proofs.Main.{safe, boxes}
use Rattle.sot_law_observed_runs.proofs.laws.tubes_are_safe.Goals as goal

pub returns : goal.returns
returns c = record {
  safe = safe;
  boxes = boxes;
}
