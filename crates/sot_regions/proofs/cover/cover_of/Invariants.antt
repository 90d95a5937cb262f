use Rattle.std.proofs.Common.{◌≤◌, length}
use Rattle.sot_regions.proofs.cover.cover_of.Given as goal

abbrev pub invariant-loop-turn : goal.invariant-loop-turn
invariant-loop-turn l = length l.cover.boxes.items ≤ 256
