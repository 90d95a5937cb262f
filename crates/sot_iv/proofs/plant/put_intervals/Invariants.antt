use Rattle.std.proofs.Common.{◌≡◌, length, take, Ok}
use Rattle.sot_iv.specs.Evaluation.{term_intervals}
use Rattle.sot_iv.proofs.plant.put_intervals.Given as goal

abbrev pub invariant-loop-i : goal.invariant-loop-i
invariant-loop-i l = record {
  size : length l.sides ≡ length l.initial.sides;
  ends : term_intervals (take l.i l.terms) l.names ≡ Ok (take l.i l.sides);
}
