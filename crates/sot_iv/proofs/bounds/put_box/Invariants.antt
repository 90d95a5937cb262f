use Rattle.std.proofs.Common.{◌≡◌, take, ◌++◌}
use Rattle.sot_iv.proofs.bounds.put_box.Given as goal

abbrev pub invariant-loop-i : goal.invariant-loop-i
invariant-loop-i l = l.sides ≡ l.initial.sides ++ take l.i l.b
