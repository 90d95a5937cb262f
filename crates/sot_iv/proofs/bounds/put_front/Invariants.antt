use Rattle.std.proofs.Common.{◌≡◌, ◌++◌, take}
use Rattle.std.specs.Prelude.{drop}
use Rattle.sot_iv.proofs.bounds.put_front.Given as goal

abbrev pub invariant-loop-i : goal.invariant-loop-i
invariant-loop-i l = l.sides ≡ take l.i l.b ++ drop l.i l.initial.sides
