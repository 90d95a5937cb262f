use Rattle.sot_law_guests.proofs.Sights.{guests_answered}
use Rattle.sot_law_guests.proofs.laws.guests_are_answered.Goals as goal

pub returns : goal.returns
returns c = guests_answered
