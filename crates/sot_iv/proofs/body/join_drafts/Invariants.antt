use Rattle.std.proofs.Common.{◌≡◌, take, drop, length}
use Rattle.sot_iv.specs.Evaluation.{joined_drafts}
use Rattle.sot_iv.proofs.body.join_drafts.Given as goal

abbrev pub invariant-loop-i : goal.invariant-loop-i
invariant-loop-i l = record {
  size : length l.second ≡ length l.initial.second;
  done : take l.i l.second ≡ joined_drafts (take l.i l.first) (take l.i l.initial.second);
  left : drop l.i l.second ≡ drop l.i l.initial.second;
}
