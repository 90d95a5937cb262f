use Rattle.std.proofs.Common.{◌≡◌, false, map, take}
use Rattle.sot_guard.proofs.blank.no_flags.Given as goal

abbrev pub invariant-loop-node : goal.invariant-loop-node
invariant-loop-node l = l.flags.items ≡ map (λ n. false) (take l._node-index l.nodes)
