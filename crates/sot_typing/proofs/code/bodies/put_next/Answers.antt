-- Of `put_next`: what its calls ask for, and its promises.
use Rattle.std.proofs.Common.{◌≡◌, ◌++◌, List, OnOk, ap, ◌∙◌, map, subst}
use Rattle.sot_syntax_tree.specs.declared.tree.NextDecl.{NextDecl}
use Rattle.sot_syntax_tree.specs.TreeViews.{tree_view, plant_view}
use Rattle.sot_rules.specs.Indexes.{program_in}
use Rattle.sot_typing.specs.Formulas.{Formula, formula_view}
use Rattle.sot_typing.specs.Terms.{formula_of}
use Rattle.sot_typing.specs.Things.{things_in}
use Rattle.sot_typing.proofs.OwnerFaults.{clauses_faultless, next_formulas}
use Rattle.sot_typing.proofs.code.bodies.put_next.Goals as goal

pub put_terms-requires-clause-faultless : goal.put_terms-requires-clause-faultless
put_terms-requires-clause-faultless c =
    clauses_faultless (program_in c.args.index.now) c.args.q.now c.requires.faultless _ (ap things_in c.deref.ensures.value ∙ c.in_ok-add_plant_names.ensures) _
    c.deref-2.ensures.value

pub returns : goal.returns
returns c =
    let is = ap things_in c.deref.ensures.value ∙ c.in_ok-add_plant_names.ensures in
    subst (λ (z : List Formula). OnOk c.put_terms.result (map formula_view c.put_terms.new.made.items ≡ map formula_view c.args.next.now.items ++ z))
    (ap (map (λ (n : NextDecl). formula_of (things_in c.deref.result.now) (tree_view n.value))) c.deref-2.ensures.value
    ∙ next_formulas (program_in c.args.index.now) (plant_view c.args.q.now) _ is c.args.q.now.next.items)
    c.put_terms.ensures
