use Rattle.std.proofs.Common.{take, subst}
use Rattle.sot_world.specs.Events.{slot_count}
use Rattle.sot_board.specs.Standing.{IsStanding}
use Rattle.sot_board.proofs.Crews.{guest_external, guest_stated}
use Rattle.sot_board.proofs.board.Board.commit_guest.Goals as goal

pub fire_guest-requires-clause-external : goal.fire_guest-requires-clause-external
fire_guest-requires-clause-external c =
    guest_external c.args.self.now (subst IsStanding c.self.view_is c.self.invariant.has.standing) c.args.node c.requires.guest

pub fire_guest-requires-clause-stated : goal.fire_guest-requires-clause-stated
fire_guest-requires-clause-stated c =
    let s = c.args.self.now in
    guest_stated s (subst IsStanding c.self.view_is c.self.invariant.has.standing) c.args.node (take (slot_count s.accepted.program c.args.node) c.args.draft)
    c.requires.guest
