use Rattle.sot_law_guests.proofs.Sights.{seen_are_recent}
use Rattle.sot_law_guests.proofs.laws.what_was_seen_is_recent.Goals as goal

pub returns : goal.returns
returns c = seen_are_recent
