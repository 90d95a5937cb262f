use Rattle.sot_law_flights.proofs.Drafts.{flown_drafts}
use Rattle.sot_law_flights.proofs.laws.drafts_are_stated.Goals as goal

pub returns : goal.returns
returns c = flown_drafts
