use Rattle.std.proofs.Common.{◌≡◌, ◌+◌, ◌*◌, ◌≤◌, drop}
use Rattle.sot_bridge.specs.Sends.{due_sends}
use Rattle.sot_bridge.proofs.counting.most_sends.Given as goal

abbrev pub invariant-loop-n : goal.invariant-loop-n
invariant-loop-n l = record {
  rest : l.sum + due_sends l.p l.topic l.horizon (drop l.n l.p.nodes) ≡ due_sends l.p l.topic l.horizon l.p.nodes;
  small : l.sum ≤ l.n * 100001;
}
