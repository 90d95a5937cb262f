use Rattle.std.proofs.Common.{ap, ◌∙◌}
use Rattle.sot_lang.specs.Tables.{Tables}
use Rattle.sot_rta.proofs.Found.{written_there}
use Rattle.sot_compose.proofs.InOrder.{lone_is}
use Rattle.sot_compose.proofs.ordered.lone_topic.Goals as goal

pub only_topic-requires : goal.only_topic-requires
only_topic-requires c =
    written_there c.args.p.now c.requires.rules c.args.node c.node_at.result.now c.node_at.ensures.is _ _
    (c.deref.ensures.value ∙ ap (λ (t : Tables). t.scalars) c.p.view_is) c.deref-2.ensures.value

pub returns : goal.returns
returns c =
    lone_is c.args.p.now c.args.node c.node_at.result.now c.node_at.ensures.is c.deref.result.now c.deref-2.result.now
    (c.deref.ensures.value ∙ ap (λ (t : Tables). t.scalars) c.p.view_is) c.deref-2.ensures.value c.only_topic.result c.only_topic.ensures
