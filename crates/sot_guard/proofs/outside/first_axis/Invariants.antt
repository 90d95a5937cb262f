use Rattle.std.proofs.Common.{ℕ, ℤ, ◌<◌}
use Rattle.sot_lists.specs.Places.{At}
use Rattle.sot_box.specs.Sides.{Side, IsIn}
use Rattle.sot_guard.proofs.outside.first_axis.Given as goal

abbrev pub invariant-loop-i : goal.invariant-loop-i
invariant-loop-i l = (j : ℕ) (r : Side) (z : ℤ) → j < l.i → At l.b j r → At l.s j z → IsIn r z
