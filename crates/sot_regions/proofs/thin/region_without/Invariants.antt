use Rattle.std.proofs.Common.{◌≡◌}
use Rattle.sot_regions.proofs.thin.region_without.Given as goal

abbrev pub invariant-loop-i : goal.invariant-loop-i
invariant-loop-i l = l.region.width ≡ l.grid.width
