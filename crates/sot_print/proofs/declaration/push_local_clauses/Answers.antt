use Rattle.std.proofs.Common.{◌∙◌, map, refl}
use Rattle.std.specs.String.{string_bytes}
use Rattle.sot_syntax_tree.specs.TreeViews.{local_view}
use Rattle.sot_print.specs.Canonical.{each, local_clause}
use Rattle.sot_print.proofs.Lists.{one_step}
use Rattle.sot_print.proofs.declaration.push_local_clauses.Goals as goal

pub loop-local-preserved : goal.loop-local-preserved
loop-local-preserved c =
    one_step (λ first xs. each local_clause (map local_view xs)) (λ first x. local_clause (local_view x)) (λ first x xs. refl)
    c.args.locals.now c.loop-local.local-index c.local-item.result (string_bytes c.loop-local.out) (string_bytes c.push_local_clause.new.out)
    c.loop-local-test.true c.local-item.is c.in_ok-push_local_clause.ensures
    ∙ c.loop-local.invariant
