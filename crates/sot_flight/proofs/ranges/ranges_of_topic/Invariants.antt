use Rattle.std.proofs.Common.{◌≡◌, take, drop}
use Rattle.sot_lang.specs.Ranges.{scalar_ranges}
use Rattle.sot_flight.proofs.ranges.ranges_of_topic.Given as goal

abbrev pub invariant-loop-i : goal.invariant-loop-i
invariant-loop-i l = l.found.items ≡ take l.i (drop l.info.first (scalar_ranges l.p))
