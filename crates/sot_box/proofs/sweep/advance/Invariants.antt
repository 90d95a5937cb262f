use Rattle.std.proofs.Common.{◌≡◌, ◌≤◌, List, length}
use Rattle.sot_box.specs.Sides.{Side}
use Rattle.sot_box.specs.Sweep.{IsSlab, IsSwept}
use Rattle.sot_box.proofs.Sweeps.{IsCarried}
use Rattle.sot_box.proofs.sweep.advance.Given as goal

abbrev pub invariant-loop-k : goal.invariant-loop-k
invariant-loop-k l = record {
  within : l.k ≤ length l.b;
  at_width : length l.at ≡ length l.b;
  reach_width : length l.reach ≡ length l.b;
  carried : (region : List (List Side)) → IsSwept region l.b l.initial.at l.initial.reach
      → IsSlab region l.b (length l.b) l.initial.at l.initial.reach → IsCarried region l.b l.initial.at l.k l.at l.reach;
}

abbrev pub decreases-loop-k : goal.decreases-loop-k
decreases-loop-k l = l.k
