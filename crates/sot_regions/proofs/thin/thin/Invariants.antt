use Rattle.std.proofs.Common.{◌≤◌, length}
use Rattle.sot_regions.proofs.thin.thin.Given as goal

abbrev pub invariant-loop-turn : goal.invariant-loop-turn
invariant-loop-turn l = length l.blocks.items ≤ length l.initial.blocks.items
