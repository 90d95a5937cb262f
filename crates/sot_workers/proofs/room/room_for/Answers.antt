use Rattle.std.proofs.Common.{subst}
use Rattle.sot_workers.specs.Lists.{HaveRoom}
use Rattle.sot_workers.proofs.room.room_for.Goals as goal

pub returns-clause-drafts : goal.returns-clause-drafts
returns-clause-drafts g c =
    subst (λ h. HaveRoom c.args.p.now.nodes h (λ n. Unit {0}) c.in_ok-no_lists.field-0.items) c.horizon.ensures c.in_ok-no_lists.ensures.room
