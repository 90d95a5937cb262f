use Rattle.std.proofs.Common.{◌<◌, length}
use Rattle.sot_regions.proofs.seeds.greatest.Given as goal

abbrev pub invariant-loop-i : goal.invariant-loop-i
invariant-loop-i l = l.place < length l.seeds
