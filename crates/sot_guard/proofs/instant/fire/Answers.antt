use Rattle.std.proofs.Common.{◌≡◌, None, List, subst}
use Rattle.sot_lists.specs.Places.{At}
use Rattle.sot_lang.specs.declared.act.Act.{Act}
use Rattle.sot_lang.specs.declared.tables.NodeInfo.{NodeInfo}
use Rattle.sot_lang.specs.TableRules.{IsCoded}
use Rattle.sot_guard.proofs.instant.fire.Goals as goal

pub fire_code-requires-clause-coded : goal.fire_code-requires-clause-coded
fire_code-requires-clause-coded c =
    subst (λ t. (info : NodeInfo) × (acts : List Act) × At t.nodes c.args.node info × IsCoded info acts) c.typed.ensures
    (c.is_coded.ensures.coded c.if-is_coded.true)

pub fire_guest-requires-clause-external : goal.fire_guest-requires-clause-external
fire_guest-requires-clause-external c =
    subst (λ t. (info : NodeInfo) × At t.nodes c.args.node info × (info.body ≡ None)) c.typed.ensures (c.is_coded.ensures.external c.if-is_coded.false)
