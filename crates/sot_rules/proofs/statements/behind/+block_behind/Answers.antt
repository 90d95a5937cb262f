-- Of the cycle `block_behind`: its promises of an `if` and of a loop.
use Rattle.std.proofs.Common.{◌∙◌, ◌&&◌, ap, sym}
use Rattle.sot_syntax_tree.specs.declared.tree.Branch.{Branch}
use Rattle.sot_syntax_tree.specs.TreeViews.{tree_view, statement_view, block_view}
use Rattle.sot_syntax_tree.proofs.BlockRows.{branch_view, repeat_view}
use Rattle.sot_rules.specs.Behind.{is_behind, tree_behind, statement_behind, block_behind}
use Rattle.sot_rules.proofs.BodiesBehind.{true_and, false_and}
use Rattle.sot_rules.proofs.statements.behind.+block_behind.Goals as goal

pub is_statement_behind-returns-then-a : goal.is_statement_behind-returns-then-a
is_statement_behind-returns-then-a t c =
    let from = c.args.from in
    let b = c.in-If.branch.value in
    let first = block_behind from (block_view b.yes.items) in
    let second = block_behind from (block_view b.no.items) in
    let taken = c.deref-in-If-2.ensures.value ∙ ap (λ (x : Branch). x.yes.items) c.deref-in-If.ensures in
    let other = c.deref-in-If-4.ensures.value ∙ ap (λ (x : Branch). x.no.items) c.deref-in-If-3.ensures in
    c.is_block_behind-b.ensures
    ∙ ap (λ ss. block_behind from (block_view ss)) other
    ∙ true_and first second (sym (c.is_block_behind-a.ensures ∙ ap (λ ss. block_behind from (block_view ss)) taken) ∙ c.if-a.true)
    ∙ true_and (tree_behind from (tree_view b.cond)) (first && second)
    (sym (c.is_tree_behind-c.ensures ∙ ap (λ (x : Branch). tree_behind from (tree_view x.cond)) c.deref.ensures) ∙ c.if-c.true)
    ∙ true_and (is_behind from c.in-If.at) (tree_behind from (tree_view b.cond) && (first && second)) (sym c.is_behind-in-If.ensures ∙ c.if-is_behind-4.true)
    ∙ sym (ap (statement_behind from) (branch_view c.in-If.branch c.in-If.at))
    ∙ sym (ap (λ s. statement_behind from (statement_view s)) c.in-If.is)

pub is_statement_behind-returns-else-a : goal.is_statement_behind-returns-else-a
is_statement_behind-returns-else-a t c =
    let from = c.args.from in
    let b = c.in-If.branch.value in
    let first = block_behind from (block_view b.yes.items) in
    let second = block_behind from (block_view b.no.items) in
    let taken = c.deref-in-If-2.ensures.value ∙ ap (λ (x : Branch). x.yes.items) c.deref-in-If.ensures in
    let is = c.is_block_behind-a.ensures ∙ ap (λ ss. block_behind from (block_view ss)) taken in
    is
    ∙ false_and first second (sym is ∙ c.if-a.false)
    ∙ true_and (tree_behind from (tree_view b.cond)) (first && second)
    (sym (c.is_tree_behind-c.ensures ∙ ap (λ (x : Branch). tree_behind from (tree_view x.cond)) c.deref.ensures) ∙ c.if-c.true)
    ∙ true_and (is_behind from c.in-If.at) (tree_behind from (tree_view b.cond) && (first && second)) (sym c.is_behind-in-If.ensures ∙ c.if-is_behind-4.true)
    ∙ sym (ap (statement_behind from) (branch_view c.in-If.branch c.in-If.at))
    ∙ sym (ap (λ s. statement_behind from (statement_view s)) c.in-If.is)

pub is_statement_behind-returns-then-number : goal.is_statement_behind-returns-then-number
is_statement_behind-returns-then-number t c =
    let from = c.args.from in
    let b = block_behind from (block_view c.in-Repeat.body.items) in
    c.is_block_behind-b-in-Repeat.ensures
    ∙ ap (λ ss. block_behind from (block_view ss)) c.deref-in-Repeat.ensures.value
    ∙ true_and (is_behind from c.in-Repeat.times.at) b (sym c.is_behind-number.ensures ∙ c.if-number.true)
    ∙ true_and (is_behind from c.in-Repeat.at) (is_behind from c.in-Repeat.times.at && b) (sym c.is_behind-in-Repeat.ensures ∙ c.if-is_behind-5.true)
    ∙ sym (ap (statement_behind from) (repeat_view c.in-Repeat.times c.in-Repeat.body c.in-Repeat.at))
    ∙ sym (ap (λ s. statement_behind from (statement_view s)) c.in-Repeat.is)
