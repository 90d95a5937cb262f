-- The loop of `put_fields`: what stands, and then the scalars of the fields that are left.
use Rattle.std.proofs.Common.{◌≡◌, ◌++◌, drop}
use Rattle.sot_syntax_tree.specs.TreeViews.{init_view}
use Rattle.sot_rules.specs.Tests.{start_values}
use Rattle.sot_typing.specs.Parts.{field_scalars}
use Rattle.sot_typing.proofs.tables.topic.put_fields.Given as goal

abbrev pub invariant-loop-k : goal.invariant-loop-k
invariant-loop-k l =
    l.scalars.items ++ field_scalars l.topic (drop l.k l.fields) (drop l.k (start_values (init_view l.init)))
    ≡ l.initial.scalars.items ++ field_scalars l.topic l.fields (start_values (init_view l.init))
