use Rattle.sot_law_runs.proofs.Firings.{firings_are_due_times}
use Rattle.sot_law_runs.proofs.laws.firings_are_due_times.Goals as goal

pub returns : goal.returns
returns c = firings_are_due_times
