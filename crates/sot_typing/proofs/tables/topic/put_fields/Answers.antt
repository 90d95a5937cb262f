-- Of `put_fields`: that its loop keeps what it says.
use Rattle.sot_syntax_tree.specs.TreeViews.{init_view}
use Rattle.sot_rules.specs.Tests.{start_values}
use Rattle.sot_typing.proofs.Scalars.{step_fields}
use Rattle.sot_typing.proofs.tables.topic.put_fields.Goals as goal

pub loop-k-preserved : goal.loop-k-preserved
loop-k-preserved c =
    step_fields c.args.topic c.args.fields.now (start_values (init_view c.args.init.now)) c.loop-k.k c.index-fields-k.result c.start_value-start.result _ _ _ _
    c.loop-k-test.true c.index-fields-k.is c.start_value-start.ensures c.in_ok-field_scalar.ensures c.in_ok-push.ensures.items c.loop-k.invariant
