use Rattle.std.proofs.Common.{sym, subst, ap, ◌∙◌}
use Rattle.sot_board.specs.Standing.{Standing}
use Rattle.sot_ordered_board.specs.Crews.{HasNoGuests}
use Rattle.sot_test_workers.proofs.tests.alone.Goals as goal

pub fly_alone-requires : goal.fly_alone-requires
fly_alone-requires g c = record {
  no_guests = subst (λ f. HasNoGuests f) (sym (ap (λ (b : Standing). b.plan) c.new-ordered.ensures ∙ c.in-Ok-open.ensures.plan)) c.has_no_guests.ensures;
}
