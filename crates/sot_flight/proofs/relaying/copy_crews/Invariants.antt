use Rattle.std.proofs.Common.{◌≡◌, ◌++◌, map, drop}
use Rattle.sot_flight.specs.FlightView.{crew_of}
use Rattle.sot_flight.proofs.relaying.copy_crews.Given as goal

abbrev pub invariant-loop-crew : goal.invariant-loop-crew
invariant-loop-crew l = map crew_of l.found.items ++ drop l.crew-index (map crew_of l.crews.items) ≡ map crew_of l.crews.items
