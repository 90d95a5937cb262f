use Rattle.std.proofs.Common.{◌≡◌, ◌≤◌, length, take, vec_len, vec_capacity}
use Rattle.sot_workers.specs.Threads.{long_count, is_long, AreNoted}
use Rattle.sot_workers.proofs.rule.long_each.Given as goal

-- so far it is noted of the nodes, and the long bodies are counted
abbrev pub invariant-loop-node : goal.invariant-loop-node
invariant-loop-node l = record {
  count : vec_len l.long ≡ l.node;
  room : length l.p.nodes ≤ vec_capacity l.long;
  counted : l.count ≡ long_count (take l.node l.p.nodes);
  small : l.count ≤ l.node;
  noted : AreNoted l.node (is_long l.p) l.long.items;
}
