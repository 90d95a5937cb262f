use Rattle.std.proofs.Common.{◌≡◌, length}
use Rattle.sot_guard.proofs.SafeNodes.{AreLeft}
use Rattle.sot_guard.proofs.due.leave_safe_nodes.Given as goal

-- the safe nodes of the modules before this one are left
abbrev pub invariant-loop-m : goal.invariant-loop-m
invariant-loop-m l = record {
  size : length l.left ≡ length l.initial.left;
  are : AreLeft l.modules l.m l.initial.left l.left;
}
