-- Of `is_body_past`: its promise.
use Rattle.std.proofs.Common.{◌≡◌, ◌∙◌, Some, subst, sym}
use Rattle.sot_syntax_tree.specs.TreeViews.{block_view}
use Rattle.sot_rules.specs.Faults.{least, body_faults}
use Rattle.sot_rules.proofs.BodiesBehind.{body_stays}
use Rattle.sot_rules.proofs.statements.body.is_body_past.Goals as goal

pub returns-in-Some : goal.returns-in-Some
returns-in-Some c e s =
    subst (λ z. least z (body_faults s (Some (block_view c.args.body.now))) ≡ z) (sym c.in-Some.is)
    (body_stays c.in-Some.f s (block_view c.args.body.now) (sym c.is_block_behind.ensures ∙ e))
