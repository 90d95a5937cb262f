use Rattle.sot_trace.proofs.FlownTold.{flown_told}
use Rattle.sot_trace.proofs.laws.flown_histories_are_told.Goals as goal

pub returns : goal.returns
returns c = flown_told
