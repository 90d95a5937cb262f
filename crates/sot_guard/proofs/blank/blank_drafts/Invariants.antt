use Rattle.std.proofs.Common.{◌≡◌, None, map, take, replicate}
use Rattle.sot_guard.proofs.blank.blank_drafts.Given as goal

abbrev pub invariant-loop-node : goal.invariant-loop-node
invariant-loop-node l = l.drafts.items ≡ map (λ n. replicate 8 None) (take l._node-index l.nodes)
