use Rattle.std.proofs.Common.{◌≡◌, take}
use Rattle.sot_lang.specs.Ranges.{bounds}
use Rattle.sot_flight.proofs.ranges.bounds_of.Given as goal

abbrev pub invariant-loop-i : goal.invariant-loop-i
invariant-loop-i l = l.found.items ≡ take l.i (bounds l.plant)
