use Rattle.std.proofs.Common.{rules, ◌≡◌, [], ◌∷◌, subst}
use Rattle.sot_syntax_tree.specs.Trees.{called}
use Rattle.sot_syntax_tree.specs.TreeViews.{tree_view, parts_view}
use Rattle.sot_expression.specs.Returned.{Makes}
use Rattle.sot_expression.proofs.nodes.call_of_three.Goals as goal

pub returns : goal.returns
returns c =
    let items : c.push_reserved-3.new.self.items ≡ c.args.first.tree ∷ c.args.second.tree ∷ c.args.third.tree ∷ [] = search rules in
    subst (λ es. Makes tree_view c.called.result (called c.args.func (parts_view es) c.args.at)) items c.called.ensures
