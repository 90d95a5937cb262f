use Rattle.std.proofs.Common.{◌≡◌, ◌+◌, ◌++◌, length, map, drop}
use Rattle.sot_flight.specs.FlightView.{input_of}
use Rattle.sot_flight.specs.EarlyInputs.{early}
use Rattle.sot_flight.proofs.relaying.copy_until.Given as goal

abbrev pub invariant-loop-place : goal.invariant-loop-place
invariant-loop-place l = record {
  inputs : map input_of l.all.items ++ early l.time (drop l.place (map input_of l.given.items))
      ≡ map input_of l.fn.all.items ++ early l.time (drop l.from (map input_of l.given.items));
  place : l.place + length (early l.time (drop l.place (map input_of l.given.items)))
      ≡ l.from + length (early l.time (drop l.from (map input_of l.given.items)));
}
