use Rattle.sot_law_guests.proofs.Relayed as relayed
use Rattle.sot_law_guests.proofs.facts.askings_fit_as_stated.Goals as goal

pub returns : goal.returns
returns c = record {
  flown = relayed.flown;
  fit = relayed.fit_as_stated;
  seen = relayed.seen_as_stated;
  answer = relayed.answer_as_stated;
  each = relayed.each_as_stated;
  unnamed = relayed.unnamed_as_stated;
}
