use Rattle.std.proofs.Common.{◌≡◌, take, drop, length}
use Rattle.sot_iv.specs.Evaluation.{hulls}
use Rattle.sot_iv.proofs.body.join_locals.Given as goal

abbrev pub invariant-loop-i : goal.invariant-loop-i
invariant-loop-i l = record {
  size : length l.second ≡ length l.initial.second;
  done : take l.i l.second ≡ hulls (take l.i l.first) (take l.i l.initial.second);
  left : drop l.i l.second ≡ drop l.i l.initial.second;
}
