-- Of `put_terms`: that its loop keeps what it says, and its promises.
use Rattle.std.proofs.Common.{[], ◌∷◌, ◌++◌, map, refl, ap, ◌∙◌}
use Rattle.std.proofs.lemmas.List.{map-append}
use Rattle.sot_syntax_tree.specs.declared.tree.NextDecl.{NextDecl}
use Rattle.sot_syntax_tree.specs.TreeViews.{tree_view}
use Rattle.sot_typing.specs.Formulas.{formula_view}
use Rattle.sot_typing.specs.Terms.{formula_of}
use Rattle.sot_typing.specs.Things.{things_in}
use Rattle.sot_typing.proofs.Listings.{add_next, add_done}
use Rattle.sot_typing.proofs.code.bodies.put_terms.Goals as goal

pub loop-clause-preserved : goal.loop-clause-preserved
loop-clause-preserved c =
    let of = λ (n : NextDecl). formula_of (things_in c.args.things.now) (tree_view n.value) in
    add_next (map formula_view) (map of) (λ n. of n ∷ []) (λ x more. refl) refl c.args.clauses.now c.loop-clause.clause-index c.loop-clause.made.items _
    c.loop-clause.invariant c.clause-item.result c.loop-clause-test.true c.clause-item.is _
    (ap (map formula_view) c.in_ok-push.ensures.items ∙ map-append formula_view c.loop-clause.made.items (c.into_term.result ∷ [])
    ∙ ap (λ z. map formula_view c.loop-clause.made.items ++ z ∷ []) (ap formula_view c.into_term.ensures ∙ c.in_ok-a.ensures.form))

pub returns : goal.returns
returns c =
    let of = λ (n : NextDecl). formula_of (things_in c.args.things.now) (tree_view n.value) in
    add_done (map formula_view) (map of) (λ n. of n ∷ []) (λ x more. refl) refl c.args.clauses.now c.loop-clause.clause-index c.loop-clause.made.items _
    c.loop-clause.invariant c.loop-clause-test.false
