use Rattle.std.proofs.Common.{◌≡◌, length, take, Ok}
use Rattle.sot_lang.specs.Ticks.{values}
use Rattle.sot_code.proofs.plant.put_values.Given as goal

abbrev pub invariant-loop-i : goal.invariant-loop-i
invariant-loop-i l = record {
  size : length l.point ≡ length l.initial.point;
  ends : values (take l.i l.terms) l.numbers ≡ Ok (take l.i l.point);
}
