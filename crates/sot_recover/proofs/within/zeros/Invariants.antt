use Rattle.std.proofs.Common.{◌≡◌, length}
use Rattle.sot_recover.proofs.within.zeros.Given as goal

abbrev pub invariant-loop-i : goal.invariant-loop-i
invariant-loop-i l = length l.ranks.items ≡ l._i
