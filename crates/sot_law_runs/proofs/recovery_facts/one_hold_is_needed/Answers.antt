use Rattle.sot_law_runs.proofs.SpringHolds.{recovered, not_recovered_at_once}
use Rattle.sot_law_runs.proofs.recovery_facts.one_hold_is_needed.Goals as goal

pub returns : goal.returns
returns c = record { recovered = recovered; not_at_once = not_recovered_at_once }
