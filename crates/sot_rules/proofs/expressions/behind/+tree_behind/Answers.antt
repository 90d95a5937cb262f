-- Of the cycle `tree_behind`: its promise of a call.
use Rattle.std.proofs.Common.{◌∙◌, ap, sym}
use Rattle.std.specs.Global.{Vec}
use Rattle.sot_syntax_tree.specs.declared.tree.Expr.{Expr}
use Rattle.sot_syntax_tree.specs.TreeViews.{tree_view, parts_view}
use Rattle.sot_syntax_tree.proofs.CallRows.{call_view}
use Rattle.sot_rules.specs.Behind.{is_behind, tree_behind, trees_behind}
use Rattle.sot_rules.proofs.BodiesBehind.{true_and}
use Rattle.sot_rules.proofs.expressions.behind.+tree_behind.Goals as goal

pub is_tree_behind-returns-then-is_behind-5 : goal.is_tree_behind-returns-then-is_behind-5
is_tree_behind-returns-then-is_behind-5 t c =
    let from = c.args.from in
    let parts = c.deref-in-Call-2.ensures.value ∙ ap (λ (v : Vec Expr). v.items) c.deref-in-Call.ensures in
    c.are_parts_behind-all.ensures
    ∙ ap (λ es. trees_behind from (parts_view es)) parts
    ∙ true_and (is_behind from c.in-Call.at) (trees_behind from (parts_view c.in-Call.parts.value.items))
    (sym c.is_behind-in-Call.ensures ∙ c.if-is_behind-5.true)
    ∙ sym (ap (tree_behind from) (call_view c.in-Call.func c.in-Call.parts c.in-Call.at))
    ∙ sym (ap (λ e. tree_behind from (tree_view e)) c.in-Call.is)
