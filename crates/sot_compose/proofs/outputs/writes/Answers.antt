use Rattle.std.proofs.Common.{ap, ◌∙◌, subst, IsTrue, ◌↔◌}
use Rattle.sot_lang.specs.Tables.{Tables}
use Rattle.sot_rta.proofs.Found.{written_there}
use Rattle.sot_rta.specs.Topics.{AreSomeOf}
use Rattle.sot_compose.proofs.Strangers.{writes_is}
use Rattle.sot_compose.proofs.outputs.writes.Goals as goal

pub are_some_of-requires : goal.are_some_of-requires
are_some_of-requires c =
    written_there c.args.p.now c.requires.rules c.args.node c.node_at.result.now c.node_at.ensures.is _ _
    (c.deref.ensures.value ∙ ap (λ (t : Tables). t.scalars) c.p.view_is) c.deref-2.ensures.value

pub returns : goal.returns
returns c =
    writes_is c.args.p.now c.args.node c.args.topic c.node_at.result.now c.are_some_of.result c.node_at.ensures.is
    (subst (λ l. IsTrue c.are_some_of.result ↔ AreSomeOf l c.node_at.result.now.writes.items c.args.topic)
    (c.deref.ensures.value ∙ ap (λ (t : Tables). t.scalars) c.p.view_is)
    (subst (λ l. IsTrue c.are_some_of.result ↔ AreSomeOf c.deref.result.now l c.args.topic) c.deref-2.ensures.value c.are_some_of.ensures))
