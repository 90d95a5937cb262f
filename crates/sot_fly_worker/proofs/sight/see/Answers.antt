use Rattle.std.proofs.Common.{◌∙◌, sym, subst}
use Rattle.sot_world.specs.NodeSorts.{IsCodedNode, IsExternalNode}
use Rattle.sot_fly_worker.proofs.sight.see.Goals as goal

pub returns-then-is_coded-clause-sight : goal.returns-then-is_coded-clause-sight
returns-then-is_coded-clause-sight c = (
  c.if-guest.false,
  c.typed-p.ensures,
  subst (λ t. IsCodedNode t c.args.node) c.typed-p.ensures (c.is_coded.ensures.coded c.if-is_coded.true),
  record {
    standing = c.reveal_invariant.ensures;
    left = sym c.left.ensures ∙ c.if-not-left.false;
    view = c.view-then-is_coded.ensures;
  },
)

pub returns-else-is_coded-clause-sight : goal.returns-else-is_coded-clause-sight
returns-else-is_coded-clause-sight c = (
  c.if-guest.false,
  sym c.left.ensures ∙ c.if-not-left.false,
  subst (λ t. IsExternalNode t c.args.node) c.typed-p.ensures (c.is_coded.ensures.external c.if-is_coded.false),
)
