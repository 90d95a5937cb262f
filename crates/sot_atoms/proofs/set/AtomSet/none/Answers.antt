use Rattle.sot_atoms.proofs.Members.{zeros, small_zeros}
use Rattle.sot_atoms.proofs.set.AtomSet.none.Goals as goal

pub invariant_of-result : goal.invariant_of-result
invariant_of-result c = small_zeros c.total.result c.in_ok-bytes.bytes.items (c.in_ok-bytes.ensures.items_if_clones_equal (λ y e. cc))

pub returns-clause-empty : goal.returns-clause-empty
returns-clause-empty c k = zeros c.total.result k c.in_ok-bytes.bytes.items (c.in_ok-bytes.ensures.items_if_clones_equal (λ y e. cc))
