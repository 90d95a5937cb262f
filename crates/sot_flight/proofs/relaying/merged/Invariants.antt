use Rattle.std.proofs.Common.{◌≡◌, ◌≤◌, ◌++◌, length, map, drop}
use Rattle.sot_flight.specs.FlightView.{input_of}
use Rattle.sot_flight.specs.Relayed.{send_of, with_sends}
use Rattle.sot_flight.proofs.relaying.merged.Given as goal

abbrev pub invariant-loop-sent : goal.invariant-loop-sent
invariant-loop-sent l = record {
  inputs : map input_of l.all.items
      ++ with_sends l.topic l.delay (drop l.sent-index (map send_of l.sends)) (drop l.place (map input_of l.given.items))
      ≡ with_sends l.topic l.delay (map send_of l.sends) (map input_of l.given.items);
  bound : l.place ≤ length l.given.items;
}
