use Rattle.std.proofs.Common.{◌≡◌}
use Rattle.sot_regions.proofs.asked.region_of.Given as goal

abbrev pub invariant-loop-b : goal.invariant-loop-b
invariant-loop-b l = l.region.width ≡ l.width
