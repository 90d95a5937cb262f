use Rattle.std.proofs.Common.{ap, ◌∙◌}
use Rattle.std.specs.Global.{Vec}
use Rattle.sot_syntax_tree.specs.declared.tree.Expr.{Expr}
use Rattle.sot_syntax_tree.specs.Trees.{called}
use Rattle.sot_syntax_tree.specs.TreeViews.{parts_view}
use Rattle.sot_syntax_tree.proofs.CallRows.{call_view}
use Rattle.sot_expression.proofs.nodes.called.Goals as goal

pub returns : goal.returns
returns c =
    call_view c.args.func c.in_ok-parts.parts c.args.at
    ∙ ap (λ (v : Vec Expr). called c.args.func (parts_view v.items) c.args.at) c.in_ok-parts.ensures.ok
