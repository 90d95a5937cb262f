use Rattle.std.proofs.Common.{◌≡◌, length, take}
use Rattle.std.specs.Prelude.{slice_set}
use Rattle.sot_certify.proofs.halves.with_side.Given as goal

abbrev pub invariant-loop-i : goal.invariant-loop-i
invariant-loop-i l = record {
  four : length l.sides ≡ 4;
  done : take l.i l.sides ≡ take l.i (slice_set l.cell l.axis l.side);
}
