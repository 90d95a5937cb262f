use Rattle.std.proofs.Common.{subst}
use Rattle.sot_world.specs.NodeSorts.{IsCodedNode, IsExternalNode}
use Rattle.sot_workers.proofs.instant.fire.Goals as goal

pub fire-requires-clause-coded : goal.fire-requires-clause-coded
fire-requires-clause-coded c = subst (λ t. IsCodedNode t c.args.node) c.typed.ensures (c.is_coded.ensures.coded c.if-is_coded.true)

pub commit_stated-requires-clause-external : goal.commit_stated-requires-clause-external
commit_stated-requires-clause-external c = subst (λ t. IsExternalNode t c.args.node) c.typed.ensures (c.is_coded.ensures.external c.if-is_coded.false)
