use Rattle.std.proofs.Common.{◌∙◌, ◌++◌, codes, ap, sym}
use Rattle.std.specs.Global.{Vec}
use Rattle.std.specs.String.{string_bytes}
use Rattle.std.proofs.lemmas.Result.{IfOk-equal}
use Rattle.sot_syntax_tree.specs.declared.tree.Expr.{Expr}
use Rattle.sot_syntax_tree.specs.TreeViews.{tree_view}
use Rattle.sot_print.specs.declared.gap.Gap.TheVariants.{Touching}
use Rattle.sot_print.specs.Words.{blanks, laid}
use Rattle.sot_print.specs.Leaves.{listed}
use Rattle.sot_print.specs.Expressions.{function_name, expression_words}
use Rattle.sot_print.proofs.Lists.{comma_step, call_bytes, call_written}
use Rattle.sot_print.proofs.expression.+expression.Goals as goal

pub push_parts-loop-place-preserved : goal.push_parts-loop-place-preserved
push_parts-loop-place-preserved t c =
    comma_step (λ gap e. expression_words (tree_view e) gap) Touching c.args.parts.now c.loop-place.place c.index-parts-place.result c.in_ok-gap.gap
    (string_bytes c.loop-place.out) (string_bytes c.push_comma.new.out) (string_bytes c.push_expression.new.out)
    c.loop-place-test.true c.index-parts-place.is c.in_ok-gap.ensures.comma c.in_ok-gap.ensures.gap c.in_ok-push_expression.ensures
    ∙ c.loop-place.invariant

pub push_call-returns : goal.push_call-returns
push_call-returns t c =
    let named = c.in_ok-push_word.ensures ∙ ap (λ word. string_bytes c.args.out.now ++ (blanks c.args.gap ++ word)) c.function_text.ensures in
    IfOk-equal c.push_word-3.result _ _ _ c.push_word-3.ensures
    (call_written (string_bytes c.args.out.now) _ _ _ (blanks c.args.gap) _ _ named c.in_ok-push_word-2.ensures c.in_ok-push_parts.ensures)

pub push_expression-returns-in-Call : goal.push_expression-returns-in-Call
push_expression-returns-in-Call t c =
    let start = string_bytes c.args.out.now in
    let shown = ap (λ e. laid (expression_words (tree_view e) c.args.gap)) c.in-Call.is ∙ call_bytes c.in-Call.func c.in-Call.parts c.in-Call.at c.args.gap in
    let parts = c.deref-in-Call-2.ensures.value ∙ ap (λ (v : Vec Expr). v.items) c.deref-in-Call.ensures in
    IfOk-equal c.push_call.result _ _ _ c.push_call.ensures
    (ap (λ es. start ++ (blanks c.args.gap ++ (function_name c.in-Call.func
    ++ (codes "(" ++ (laid (listed (λ gap e. expression_words (tree_view e) gap) Touching es) ++ codes ")"))))) parts
    ∙ ap (λ bytes. start ++ bytes) (sym shown))
