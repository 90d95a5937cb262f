use Rattle.std.proofs.Common.{◌<◌, length, subst}
use Rattle.sot_lists.specs.Places.{Has}
use Rattle.std.proofs.Common.{ℕ, sym}
use Rattle.sot_bridge.proofs.counting.node_sends.Goals as goal

pub has_topic-requires : goal.has_topic-requires
has_topic-requires c = subst (λ ks. (k : ℕ) → Has ks k → k < length c.args.p.now.scalars) (sym c.deref.ensures.value) c.requires.inside
