use Rattle.sot_law_guests.proofs.Drafts.{lists_of_one_history, lists_are_askings}
use Rattle.sot_law_guests.proofs.laws.lists_are_the_drafts.Goals as goal

pub returns : goal.returns
returns c = record { one_history = lists_of_one_history; askings = lists_are_askings }
