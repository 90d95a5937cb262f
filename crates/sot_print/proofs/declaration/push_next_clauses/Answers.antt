use Rattle.std.proofs.Common.{◌∙◌, map, refl}
use Rattle.std.specs.String.{string_bytes}
use Rattle.sot_syntax_tree.specs.TreeViews.{next_view}
use Rattle.sot_print.specs.Canonical.{each, next_clause}
use Rattle.sot_print.proofs.Lists.{one_step}
use Rattle.sot_print.proofs.declaration.push_next_clauses.Goals as goal

pub loop-clause-preserved : goal.loop-clause-preserved
loop-clause-preserved c =
    one_step (λ first xs. each next_clause (map next_view xs)) (λ first x. next_clause (next_view x)) (λ first x xs. refl)
    c.args.clauses.now c.loop-clause.clause-index c.clause-item.result (string_bytes c.loop-clause.out) (string_bytes c.push_next_clause.new.out)
    c.loop-clause-test.true c.clause-item.is c.in_ok-push_next_clause.ensures
    ∙ c.loop-clause.invariant
