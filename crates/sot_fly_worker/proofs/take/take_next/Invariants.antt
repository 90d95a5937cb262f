use Rattle.std.proofs.Common.{◌≡◌}
use Rattle.sot_turn.specs.Prefixes.{IsPrefix}
use Rattle.sot_turn.specs.Passes.{pass_lock, pass_ground, pass_seen, pass_added}
use Rattle.sot_board.specs.Versions.{drafts_of}
use Rattle.sot_fly_worker.proofs.take.take_next.Given as goal

-- the pass is of the same lock and ground, has added nothing, and has seen no firing of the node
abbrev pub invariant-loop : goal.invariant-loop
invariant-loop g l = record {
  lock : pass_lock l.pass ≡ pass_lock l.initial.pass;
  ground : pass_ground l.pass ≡ pass_ground l.initial.pass;
  seen : IsPrefix (pass_seen l.initial.pass) (pass_seen l.pass);
  added : pass_added l.pass ≡ pass_added l.initial.pass;
  drafts : l.drafts.items ≡ drafts_of l.node (pass_seen l.pass);
}
