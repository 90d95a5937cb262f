use Rattle.std.proofs.Common.{pos, ◌≤ℤ◌, ◌<ℤ◌}
use Rattle.sot_world.proofs.answers.place_of.Given as goal

-- a remainder
abbrev pub invariant-loop-i : goal.invariant-loop-i
invariant-loop-i l = (pos 0 ≤ℤ l.sum) × (l.sum <ℤ pos 64)
