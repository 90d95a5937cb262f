use Rattle.std.proofs.Common.{sym, subst, take}
use Rattle.sot_lists.specs.Places.{At}
use Rattle.sot_flight.specs.Plans as plans
use Rattle.sot_world.specs.Events.{slot_count}
use Rattle.sot_world.specs.Steps.{Guest}
use Rattle.sot_ordered_board.proofs.Extending.{firing_goes}
use Rattle.sot_ordered_board.proofs.ordered.OrderedBoard.commit_guest.Goals as goal

pub invariant_of-self : goal.invariant_of-self
invariant_of-self c =
    let n = c.args.node in
    let b = c.self.inside.board in
    firing_goes b c.commit_guest.new.self n (Guest n (take (slot_count b.accepted.program n) c.args.draft)) c.commit_guest.result c.self.invariant
    c.commit_guest.ensures
    (λ own. absurd (own c.requires.guest.0 (subst (λ s. At s.plan.crews n (plans.Guest c.requires.guest.0)) (sym c.self.view_is) c.requires.guest.1)))
