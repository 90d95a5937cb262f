use Rattle.std.proofs.Common.{sym, subst, ◌∙◌}
use Rattle.sot_ordered_board.specs.Crews.{HasNoGuests}
use Rattle.sot_world.specs.NodeSorts.{IsCodedNode, IsExternalNode}
use Rattle.sot_test_flights.proofs.tests.views.beside.Goals as goal

pub commit_beside-requires-clause-no_guests : goal.commit_beside-requires-clause-no_guests
commit_beside-requires-clause-no_guests g c = subst (λ f. HasNoGuests f) (sym (c.prepare.ensures.plan ∙ c.in-Ok-open.ensures.plan)) c.has_no_guests.ensures

pub commit_beside-requires-clause-external : goal.commit_beside-requires-clause-external
commit_beside-requires-clause-external g c = subst (λ t. IsExternalNode t 0) c.typed-p.ensures (c.is_coded.ensures.external c.if-is_coded.false)

pub commit_beside-requires-clause-coded : goal.commit_beside-requires-clause-coded
commit_beside-requires-clause-coded g c = subst (λ t. IsCodedNode t 2) c.typed-p.ensures (c.is_coded-else-is_coded.ensures.coded c.if-not-is_coded.false)
