-- Of `note_body`: its promises.
use Rattle.std.proofs.Common.{◌∙◌, None, Option, Some, ap, sym}
use Rattle.sot_syntax_tree.specs.Trees.{Block}
use Rattle.sot_syntax_tree.specs.TreeViews.{block_view, node_view}
use Rattle.sot_rules.specs.Names.{node_scope}
use Rattle.sot_rules.specs.Faults.{body_faults, least}
use Rattle.sot_rules.specs.Scopes.{scope_in}
use Rattle.sot_rules.specs.Indexes.{program_in}
use Rattle.sot_rules.proofs.Bodies.{body_alike}
use Rattle.sot_rules.proofs.statements.body.note_body.Goals as goal

pub returns-in_ok-scope-in-Some : goal.returns-in_ok-scope-in-Some
returns-in_ok-scope-in-Some c =
    let s = scope_in c.in_ok-scope-in-Some.scope in
    let t = node_scope (program_in c.args.index.now) (node_view c.args.n.now) in
    c.note_block.ensures
    ∙ ap (λ ss. least c.args.first.now (body_faults s (Some (block_view ss)))) c.deref-in-Some.ensures.value
    ∙ ap (least c.args.first.now) (body_alike s t (block_view c.in-Some.body.items) c.in_ok-scope-in-Some.ensures)
    ∙ ap (λ o. least c.args.first.now (body_faults t (elim o as (λ x. Option Block) [ None ↦ None | Some v ↦ Some (block_view v.items) ]))) (sym c.in-Some.is)
