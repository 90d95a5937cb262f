use Rattle.std.proofs.Common.{◌≡◌}
use Rattle.sot_regions.proofs.narrowing.part_in.Given as goal

abbrev pub invariant-loop-i : goal.invariant-loop-i
invariant-loop-i l = l.kept.width ≡ l.width
