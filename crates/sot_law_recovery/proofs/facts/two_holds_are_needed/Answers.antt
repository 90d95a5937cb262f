use Rattle.sot_law_recovery.proofs.StairHolds.{recovered, not_after_one}
use Rattle.sot_law_recovery.proofs.facts.two_holds_are_needed.Goals as goal

pub returns : goal.returns
returns c = record { recovered = recovered; not_after_one = not_after_one }
