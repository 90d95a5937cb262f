use Rattle.std.proofs.Common.{◌≡◌, ◌++◌, map, drop}
use Rattle.sot_flight.specs.FlightView.{input_of}
use Rattle.sot_flight.proofs.relaying.copy_rest.Given as goal

abbrev pub invariant-loop-place : goal.invariant-loop-place
invariant-loop-place l = map input_of l.all.items ++ drop l.place (map input_of l.given.items)
    ≡ map input_of l.fn.all.items ++ drop l.from (map input_of l.given.items)
