use Rattle.std.proofs.Common.{◌≡◌, ◌+◌, ◌≤◌, length}
use Rattle.std.specs.Prelude.{vec_len, vec_capacity}
use Rattle.sot_guard.specs.InstantParts.{HasFired}
use Rattle.sot_guard.proofs.instant.fire_all.Given as goal

-- the nodes so far have fired
abbrev pub invariant-loop-node : goal.invariant-loop-node
invariant-loop-node l = record {
  fired : HasFired l.fn.guard l.guard l.drafts l.fn.told.items l.told.items l.node;
  accepted : l.guard.accepted ≡ l.fn.guard.accepted;
  trusted : l.guard.trusted ≡ l.fn.guard.trusted;
  len : vec_len l.told ≤ vec_len l.fn.told + l.node;
  room : vec_capacity l.fn.told ≤ vec_capacity l.told;
  count : l.count ≡ length l.fn.guard.accepted.program.nodes;
}
