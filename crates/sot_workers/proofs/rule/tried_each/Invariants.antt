use Rattle.std.proofs.Common.{◌≡◌, ◌≤◌, length, vec_len, vec_capacity}
use Rattle.sot_workers.specs.Threads.{is_tried, AreNoted}
use Rattle.sot_workers.proofs.rule.tried_each.Given as goal

abbrev pub invariant-loop-node : goal.invariant-loop-node
invariant-loop-node l = record {
  count : vec_len l.tried ≡ l.node;
  room : length l.p.nodes ≤ vec_capacity l.tried;
  noted : AreNoted l.node (is_tried l.p l.flight) l.tried.items;
}
