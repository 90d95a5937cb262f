use Rattle.std.proofs.Common.{◌<◌, ◌≤◌, ℕ, Ok}
use Rattle.sot_rta.proofs.many.in_order.Given as goal

abbrev pub invariant-loop-i : goal.invariant-loop-i
invariant-loop-i g l = (j : ℕ) → l.from ≤ j → j < l.i → goal.F-post g l.check j (Ok tt)
