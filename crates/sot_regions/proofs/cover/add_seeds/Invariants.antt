use Rattle.std.proofs.Common.{◌≤◌, length}
use Rattle.sot_regions.proofs.cover.add_seeds.Given as goal

abbrev pub invariant-loop-seed : goal.invariant-loop-seed
invariant-loop-seed l = length l.cover.boxes.items ≤ 256
