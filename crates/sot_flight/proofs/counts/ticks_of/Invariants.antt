use Rattle.std.proofs.Common.{◌≡◌, ◌+◌, drop}
use Rattle.sot_flight.specs.Counts.{tick_numbers}
use Rattle.sot_flight.proofs.counts.ticks_of.Given as goal

abbrev pub invariant-loop-plant : goal.invariant-loop-plant
invariant-loop-plant l = l.sum + tick_numbers (drop l.plant-index l.plants) ≡ tick_numbers l.plants
