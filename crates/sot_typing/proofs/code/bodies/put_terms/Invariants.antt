-- The loop of `put_terms`: what stands, and then what is left.
use Rattle.std.proofs.Common.{◌≡◌, ◌++◌, drop, map}
use Rattle.sot_syntax_tree.specs.declared.tree.NextDecl.{NextDecl}
use Rattle.sot_syntax_tree.specs.TreeViews.{tree_view}
use Rattle.sot_typing.specs.Formulas.{formula_view}
use Rattle.sot_typing.specs.Terms.{formula_of}
use Rattle.sot_typing.specs.Things.{things_in}
use Rattle.sot_typing.proofs.code.bodies.put_terms.Given as goal

abbrev pub invariant-loop-clause : goal.invariant-loop-clause
invariant-loop-clause l =
    map formula_view l.made.items ++ map (λ (n : NextDecl). formula_of (things_in l.things) (tree_view n.value)) (drop l.clause-index l.clauses)
    ≡ map formula_view l.initial.made.items ++ map (λ (n : NextDecl). formula_of (things_in l.things) (tree_view n.value)) l.clauses
