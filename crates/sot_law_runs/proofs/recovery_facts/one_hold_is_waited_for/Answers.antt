use Rattle.sot_law_runs.proofs.SpringSteps.{stretch, not_trusted_at_once}
use Rattle.sot_law_runs.proofs.recovery_facts.one_hold_is_waited_for.Goals as goal

pub returns : goal.returns
returns c = record { stretch = stretch; not_at_once = not_trusted_at_once }
