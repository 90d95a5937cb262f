use Rattle.std.proofs.Common.{◌≡◌, ◌++◌, map, drop}
use Rattle.sot_flight.specs.FlightView.{sway_of}
use Rattle.sot_flight.proofs.relaying.copy_sways.Given as goal

abbrev pub invariant-loop-sway : goal.invariant-loop-sway
invariant-loop-sway l = map sway_of l.found.items ++ drop l.sway-index (map sway_of l.sways.items) ≡ map sway_of l.sways.items
