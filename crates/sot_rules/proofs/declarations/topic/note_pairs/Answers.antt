-- Of `note_pairs`: that its loop keeps what it says, and its promises.
use Rattle.std.proofs.Common.{arith}
use Rattle.sot_syntax_tree.specs.TreeViews.{shape_view, init_view}
use Rattle.sot_rules.specs.Tests.{form_scalars, start_values}
use Rattle.sot_rules.specs.Faults.{start_faults}
use Rattle.sot_rules.proofs.Pairs.{step_pairs, no_pairs}
use Rattle.sot_rules.proofs.declarations.topic.note_pairs.Goals as goal

pub loop-i-preserved : goal.loop-i-preserved
loop-i-preserved c =
    step_pairs (λ x. start_faults x.0 x.1) (form_scalars (shape_view c.args.shape.now)) (start_values (init_view c.args.init.now)) c.loop-i.i
    c.scalar_at.result c.start_value.result _ _ _ c.scalar_at.ensures c.start_value.ensures c.loop-i.invariant c.note_start.ensures

pub returns : goal.returns
returns c =
    no_pairs (λ x. start_faults x.0 x.1) (form_scalars (shape_view c.args.shape.now)) (start_values (init_view c.args.init.now)) c.loop-i.i
    _ _ (omega arith) c.loop-i.invariant
