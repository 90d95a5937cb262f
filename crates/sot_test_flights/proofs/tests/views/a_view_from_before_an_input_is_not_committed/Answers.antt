use Rattle.std.proofs.Common.{subst}
use Rattle.sot_world.specs.NodeSorts.{IsCodedNode}
use Rattle.sot_test_flights.proofs.tests.views.a_view_from_before_an_input_is_not_committed.Goals as goal

pub commit_late-requires-clause-coded : goal.commit_late-requires-clause-coded
commit_late-requires-clause-coded g c = subst (λ t. IsCodedNode t 0) c.typed-else-len-eq0.ensures (c.is_coded.ensures.coded c.if-not-is_coded.false)
