use Rattle.std.proofs.Common.{◌∙◌, ◌++◌, ap, sym, refl}
use Rattle.std.specs.String.{string_bytes}
use Rattle.std.proofs.lemmas.Result.{IfOk-equal}
use Rattle.sot_syntax_tree.specs.declared.tree.Branch.{Branch}
use Rattle.sot_syntax_tree.specs.TreeViews.{tree_view, statement_view, block_view}
use Rattle.sot_print.specs.declared.gap.Gap.TheVariants.{Line, Space}
use Rattle.sot_print.specs.Words.{blanks, laid}
use Rattle.sot_print.specs.Expressions.{expression_words}
use Rattle.sot_print.specs.Statements.{braced_words, otherwise_words, statement_words, block_words}
use Rattle.sot_print.proofs.Lists.{one_step}
use Rattle.sot_print.proofs.Blocks.{otherwise_bytes, otherwise_written, branch_bytes, branch_written, repeat_bytes, repeat_written}
use Rattle.sot_print.proofs.statement.+statement.Goals as goal

pub push_statements-loop-statement-preserved : goal.push_statements-loop-statement-preserved
push_statements-loop-statement-preserved t c =
    one_step (λ first ss. block_words (block_view ss) c.args.indent) (λ first s. statement_words (statement_view s) c.args.indent) (λ first s ss. refl)
    c.args.block.now c.loop-statement.statement-index c.statement-item.result (string_bytes c.loop-statement.out) (string_bytes c.push_statement.new.out)
    c.loop-statement-test.true c.statement-item.is c.in_ok-push_statement.ensures
    ∙ c.loop-statement.invariant

pub push_otherwise-returns : goal.push_otherwise-returns
push_otherwise-returns t c =
    let block = c.args.block.now in
    let some = sym c.is_empty.ensures ∙ c.if-is_empty.false in
    IfOk-equal c.push_block.result _ _ _ c.push_block.ensures
    (otherwise_written (string_bytes c.args.out.now) (string_bytes c.push_word.new.out) (blanks Space) _ _ c.in_ok-push_word.ensures
    ∙ ap (λ bytes. string_bytes c.args.out.now ++ bytes) (sym (otherwise_bytes block c.args.indent (block_words (block_view block)) some)))

pub push_statement-returns-in_ok-push_block-in-If : goal.push_statement-returns-in_ok-push_block-in-If
push_statement-returns-in_ok-push_block-in-If t c =
    let start = string_bytes c.args.out.now in
    let indent = c.args.indent in
    let shown = ap (λ s. laid (statement_words (statement_view s) indent)) c.in-If.is ∙ branch_bytes c.in-If.branch c.in-If.at indent in
    let tested = c.in_ok-push_expression-in-If.ensures ∙ ap
    (λ (b : Branch). string_bytes c.push_word-in-If.new.out ++ laid (expression_words (tree_view b.cond) Space)) c.deref.ensures in
    let taken = c.deref-in-If-2.ensures.value ∙ ap (λ (b : Branch). b.yes.items) c.deref-in-If.ensures in
    let other = c.deref-in-If-4.ensures.value ∙ ap (λ (b : Branch). b.no.items) c.deref-in-If-3.ensures in
    let yes_ = c.in_ok-push_block-in-If.ensures ∙ ap (λ ss. string_bytes c.push_expression.new.out ++ laid (braced_words indent (block_words (block_view ss))))
    taken in
    IfOk-equal c.push_otherwise.result _ _ _ c.push_otherwise.ensures
    (ap (λ ss. string_bytes c.push_block.new.out ++ laid (otherwise_words (block_view ss) indent (block_words (block_view ss)))) other
    ∙ branch_written start _ _ _ (blanks (Line indent)) _ _ _ _ c.in_ok-push_word-in-If.ensures tested yes_
    ∙ ap (λ bytes. start ++ bytes) (sym shown))

pub push_statement-returns-in_ok-push_literal-in-Repeat : goal.push_statement-returns-in_ok-push_literal-in-Repeat
push_statement-returns-in_ok-push_literal-in-Repeat t c =
    let start = string_bytes c.args.out.now in
    let indent = c.args.indent in
    let shown = ap (λ s. laid (statement_words (statement_view s) indent)) c.in-Repeat.is
    ∙ repeat_bytes c.in-Repeat.times c.in-Repeat.body c.in-Repeat.at indent in
    IfOk-equal c.push_block-in-Repeat.result _ _ _ c.push_block-in-Repeat.ensures
    (ap (λ ss. string_bytes c.push_literal.new.out ++ laid (braced_words indent (block_words (block_view ss)))) c.deref-in-Repeat.ensures.value
    ∙ repeat_written start _ _ (blanks (Line indent)) _ _ _ c.in_ok-push_word-in-Repeat.ensures c.in_ok-push_literal-in-Repeat.ensures
    ∙ ap (λ bytes. start ++ bytes) (sym shown))
