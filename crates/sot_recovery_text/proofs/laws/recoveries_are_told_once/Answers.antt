use Rattle.sot_recovery_text.proofs.Alike.{told_once}
use Rattle.sot_recovery_text.proofs.laws.recoveries_are_told_once.Goals as goal

pub returns : goal.returns
returns c = told_once
