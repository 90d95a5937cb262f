use Rattle.sot_law_flight_facts.proofs.LineFlight as flight
use Rattle.sot_law_flight_facts.proofs.facts.line_is_flown.Goals as goal

pub returns : goal.returns
returns c = record {
  flown = flight.flown;
  at_once = flight.at_once;
  other_disturbance = flight.other_disturbance;
  other_draft = flight.other_draft;
  no_tick = flight.no_tick;
  tick_after_the_end = flight.tick_after_the_end;
  safe_node_left = flight.safe_node_left;
  advanced_node_left = flight.advanced_node_left;
  decision_left = flight.decision_left;
}
