use Rattle.sot_law_guests.proofs.Relayed.{lists_as_stated}
use Rattle.sot_law_guests.proofs.facts.lists_are_as_stated.Goals as goal

pub returns : goal.returns
returns c = lists_as_stated
