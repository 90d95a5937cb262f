-- Of the cycle `statement`: that the loops keep what they say, and their promises.
use Rattle.std.proofs.Common.{◌∙◌, None, Some, ap, ap₂, sym, refl}
use Rattle.sot_syntax_tree.specs.declared.tree.Member.{Member}
use Rattle.sot_syntax_tree.specs.declared.tree.Branch.{Branch}
use Rattle.sot_syntax_tree.specs.TreeViews.{tree_view, statement_view, block_view}
use Rattle.sot_rules.specs.Sorts.{is_scaled}
use Rattle.sot_rules.specs.Names.{reading}
use Rattle.sot_rules.specs.TreeSorts.{sort}
use Rattle.sot_rules.specs.Faults.{least, tree_faults, target_faults, statement_faults, block_faults}
use Rattle.sot_rules.specs.Scopes.{scope_in}
use Rattle.sot_rules.proofs.Branches.{branch_noted, repeat_noted}
use Rattle.sot_rules.proofs.Loops.{step_least, none_left}
use Rattle.sot_rules.proofs.Sequences.{two_noted}
use Rattle.sot_rules.proofs.statements.statement.+statement.Goals as goal

pub block-loop-stmt-preserved : goal.block-loop-stmt-preserved
block-loop-stmt-preserved t c =
    let scope = scope_in c.args.scope.now in
    step_least (λ ss. block_faults scope (block_view ss)) (λ s. statement_faults scope (statement_view s)) (λ x more. refl)
    c.args.stmts.now c.loop-stmt.stmt-index c.stmt-item.result _ _ _ c.loop-stmt-test.true c.stmt-item.is c.loop-stmt.invariant
    c.statement.ensures

pub statement-returns-in-If : goal.statement-returns-in-If
statement-returns-in-If t c =
    let scope = scope_in c.args.scope.now in
    let taken = c.deref-in-If-2.ensures.value ∙ ap (λ (x : Branch). x.yes.items) c.deref-in-If.ensures in
    let other = c.deref-in-If-4.ensures.value ∙ ap (λ (x : Branch). x.no.items) c.deref-in-If-3.ensures in
    branch_noted scope c.in-If.branch c.in-If.at c.is_scaled.result _ _ _ _ _
    (c.is_scaled.ensures ∙ ap is_scaled (c.expression-s-in-If.ensures.sort ∙ ap (λ (x : Branch). sort scope.read (tree_view x.cond)) c.deref.ensures))
    (c.expression-s-in-If.ensures.noted ∙ ap (λ (x : Branch). least c.args.first.now (tree_faults scope.read (tree_view x.cond))) c.deref.ensures)
    c.note.ensures
    (c.block.ensures ∙ ap (λ ss. least c.note.new.first (block_faults scope (block_view ss))) taken)
    (c.block-in-If.ensures ∙ ap (λ ss. least c.block.new.first (block_faults scope (block_view ss))) other)
    ∙ sym (ap (λ z. least c.args.first.now (statement_faults scope (statement_view z))) c.in-If.is)

pub statement-returns-in-Repeat : goal.statement-returns-in-Repeat
statement-returns-in-Repeat t c =
    let scope = scope_in c.args.scope.now in
    repeat_noted scope c.in-Repeat.times c.in-Repeat.body c.in-Repeat.at c.has_decimals.result c.is_off.result _ _ _ _
    c.has_decimals.ensures c.is_off.ensures
    c.note-in-Repeat.ensures c.note-in-Repeat-2.ensures
    (c.block-in-Repeat.ensures ∙ ap (λ ss. least c.note-in-Repeat-2.new.first (block_faults scope (block_view ss))) c.deref-in-Repeat.ensures.value)
    ∙ sym (ap (λ z. least c.args.first.now (statement_faults scope (statement_view z))) c.in-Repeat.is)

pub block-returns : goal.block-returns
block-returns t c =
    none_left (λ ss. block_faults (scope_in c.args.scope.now) (block_view ss)) refl c.args.stmts.now c.loop-stmt.stmt-index
    _ _ c.loop-stmt-test.false c.loop-stmt.invariant

pub statement-returns-in-Assign : goal.statement-returns-in-Assign
statement-returns-in-Assign t c =
    let scope = scope_in c.args.scope.now in
    let value = tree_view c.in-Assign.value in
    let at = c.in-Assign.target.at in
    two_noted (tree_faults scope.read value) (target_faults (reading scope.local c.in-Assign.target None) (sort scope.read value) at) _ _ _
    c.expression-s.ensures.noted
    (c.note_target.ensures ∙ ap₂ (λ r s. least c.expression-s.new.first (target_faults r s at)) c.reading_alone-wanted.ensures c.expression-s.ensures.sort)
    ∙ sym (ap (λ z. least c.args.first.now (statement_faults scope (statement_view z))) c.in-Assign.is)

pub statement-returns-in-Publish : goal.statement-returns-in-Publish
statement-returns-in-Publish t c =
    let scope = scope_in c.args.scope.now in
    let value = tree_view c.in-Publish.value in
    let at = c.in-Publish.topic.at in
    two_noted (tree_faults scope.read value) (target_faults (reading scope.written c.in-Publish.topic None) (sort scope.read value) at) _ _ _
    c.expression-s-in-Publish.ensures.noted
    (c.note_target-in-Publish.ensures ∙ ap₂ (λ r s. least c.expression-s-in-Publish.new.first (target_faults r s at)) c.reading_alone-wanted-in-Publish.ensures
    c.expression-s-in-Publish.ensures.sort)
    ∙ sym (ap (λ z. least c.args.first.now (statement_faults scope (statement_view z))) c.in-Publish.is)

pub statement-returns-in-PublishField : goal.statement-returns-in-PublishField
statement-returns-in-PublishField t c =
    let scope = scope_in c.args.scope.now in
    let value = tree_view c.in-PublishField.value in
    let m = c.content-member.result.now in
    let known = λ (m : Member). target_faults (reading scope.written m.first (Some m.field)) (sort scope.read value) m.first.at in
    two_noted (tree_faults scope.read value) (known c.in-PublishField.place) _ _ _
    c.expression-s-in-PublishField.ensures.noted
    (c.note_target-in-PublishField.ensures
    ∙ ap₂ (λ r s. least c.expression-s-in-PublishField.new.first (target_faults r s m.first.at)) c.reading-wanted.ensures
    c.expression-s-in-PublishField.ensures.sort
    ∙ ap (λ m. least c.expression-s-in-PublishField.new.first (known m)) c.content-member.ensures)
    ∙ sym (ap (λ z. least c.args.first.now (statement_faults scope (statement_view z))) c.in-PublishField.is)
