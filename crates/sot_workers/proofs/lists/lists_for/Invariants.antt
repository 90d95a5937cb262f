use Rattle.std.proofs.Common.{◌≡◌, ◌≤◌, vec_len, vec_capacity, length}
use Rattle.sot_workers.specs.Lists.{AreEmpty, HaveRoom}
use Rattle.sot_workers.proofs.lists.lists_for.Given as goal

abbrev pub invariant-loop-node : goal.invariant-loop-node
invariant-loop-node l = record {
  lists : AreEmpty l.node l.lists.items;
  drafts : HaveRoom l.fn.nodes l.horizon (λ n. Unit {0}) l.lists.items;
  count : vec_len l.lists ≡ l.node;
  room : length l.fn.nodes ≤ vec_capacity l.lists;
}
