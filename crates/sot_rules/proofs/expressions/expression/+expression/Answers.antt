-- Of the cycle `expression`: that the loops keep what they say, and their promises.
use Rattle.std.proofs.Common.{◌∙◌, ◌||◌, ◌++◌, Some, nat_abs, ap, ap₂, sym, refl, fold}
use Rattle.std.specs.Global.{Vec}
use Rattle.std.proofs.lemmas.List.{drop_all}
use Rattle.sot_syntax_tree.specs.Trees.{binary, rest, negated, denied, rescaled, chosen}
use Rattle.sot_syntax_tree.specs.declared.tree.Expr.{Expr}
use Rattle.sot_syntax_tree.specs.declared.tree.Member.{Member}
use Rattle.sot_syntax_tree.specs.declared.tree.Choice.{Choice}
use Rattle.sot_syntax_tree.specs.declared.tree.Operands.{out-Operands}
use Rattle.sot_syntax_tree.specs.TreeViews.{tree_view, parts_view}
use Rattle.sot_rules.specs.declared.expressions.sort.Sort.{Sort}
use Rattle.sot_rules.specs.declared.expressions.sort.Sort.TheVariants.{Scaled}
use Rattle.sot_rules.specs.declared.fault.TypeKind.TheVariants.{KindDiffers, ScaleDiffers}
use Rattle.sot_rules.specs.Sorts.{unless, given, kinds_misfit, scales_misfit, operator_sort, differ, branches_misfit, is_truthful, is_scaled}
use Rattle.sot_rules.specs.Names.{reading, reading_sort}
use Rattle.sot_rules.specs.TreeSorts.{sort, sorts, is_zero, is_no_scale}
use Rattle.sot_rules.specs.Faults.{least, when, misfits, reading_faults, tree_faults, parts_faults}
use Rattle.sot_rules.specs.Scopes.{names_in}
use Rattle.sot_rules.specs.Operands.{no_operand, with_operand}
use Rattle.sot_rules.proofs.Calls.{call_is, call_noted}
use Rattle.sot_rules.proofs.Loops.{step_least, step_fold, none_left}
use Rattle.sot_rules.proofs.Sequences.{two_noted, three_noted}
use Rattle.sot_rules.proofs.expressions.expression.+expression.Goals as goal

pub operands-loop-part-preserved : goal.operands-loop-part-preserved
operands-loop-part-preserved t c =
    let names = names_in c.args.names.now in
    let i = c.loop-part.invariant in
    record {
      sorts =
          step_fold (λ es. sorts names (parts_view es)) (λ e. sort names (tree_view e)) (λ x more. refl)
          c.args.parts.now c.loop-part.part-index c.part-item.result _ _ _ c.loop-part-test.true c.part-item.is i.sorts
          (c.with-o.ensures ∙ ap (with_operand c.loop-part.o) c.expression-a.ensures.sort);
      noted =
          step_least (λ es. parts_faults names (parts_view es)) (λ e. tree_faults names (tree_view e)) (λ x more. refl)
          c.args.parts.now c.loop-part.part-index c.part-item.result _ _ _ c.loop-part-test.true c.part-item.is i.noted
          c.expression-a.ensures.noted;
    }

pub expression-returns-in-Call-clause-sort : goal.expression-returns-in-Call-clause-sort
expression-returns-in-Call-clause-sort t c =
    let names = names_in c.args.names.now in
    let parts = c.deref-in-Call-2.ensures.value ∙ ap (λ (v : Vec Expr). v.items) c.deref-in-Call.ensures in
    let kept = c.operands-o.ensures.sorts ∙ ap (λ es. fold with_operand no_operand (sorts names (parts_view es))) parts in
    c.call.ensures.sort
    ∙ call_is names c.in-Call.func c.in-Call.parts c.in-Call.at c.operands-o.result kept
    ∙ sym (ap (λ e. sort names (tree_view e)) c.in-Call.is)

pub expression-returns-in-Call-clause-noted : goal.expression-returns-in-Call-clause-noted
expression-returns-in-Call-clause-noted t c =
    let names = names_in c.args.names.now in
    let parts = c.deref-in-Call-2.ensures.value ∙ ap (λ (v : Vec Expr). v.items) c.deref-in-Call.ensures in
    let kept = c.operands-o.ensures.sorts ∙ ap (λ es. fold with_operand no_operand (sorts names (parts_view es))) parts in
    let noted = c.operands-o.ensures.noted ∙ ap (λ es. least c.args.first.now (parts_faults names (parts_view es))) parts in
    call_noted names c.in-Call.func c.in-Call.parts c.in-Call.at c.operands-o.result kept
    _ _ _ noted c.call.ensures.noted
    ∙ sym (ap (λ e. least c.args.first.now (tree_faults names (tree_view e))) c.in-Call.is)

pub operands-returns-clause-sorts : goal.operands-returns-clause-sorts
operands-returns-clause-sorts t c =
    let names = names_in c.args.names.now in
    ap (λ es. fold with_operand c.loop-part.o (sorts names (parts_view es))) (sym (drop_all c.loop-part.part-index c.args.parts.now c.loop-part-test.false))
    ∙ c.loop-part.invariant.sorts

pub operands-returns-clause-noted : goal.operands-returns-clause-noted
operands-returns-clause-noted t c =
    none_left (λ es. parts_faults (names_in c.args.names.now) (parts_view es)) refl c.args.parts.now c.loop-part.part-index
    _ _ c.loop-part-test.false c.loop-part.invariant.noted

pub expression-returns-in-Number-clause-sort : goal.expression-returns-in-Number-clause-sort
expression-returns-in-Number-clause-sort t c =
    let names = names_in c.args.names.now in
    sym (ap (λ e. sort names (tree_view e)) c.in-Number.is)

pub expression-returns-in-Number-clause-noted : goal.expression-returns-in-Number-clause-noted
expression-returns-in-Number-clause-noted t c =
    let names = names_in c.args.names.now in
    sym (ap (λ e. least c.args.first.now (tree_faults names (tree_view e))) c.in-Number.is)

pub expression-returns-in-Truth-clause-sort : goal.expression-returns-in-Truth-clause-sort
expression-returns-in-Truth-clause-sort t c =
    let names = names_in c.args.names.now in
    sym (ap (λ e. sort names (tree_view e)) c.in-Truth.is)

pub expression-returns-in-Truth-clause-noted : goal.expression-returns-in-Truth-clause-noted
expression-returns-in-Truth-clause-noted t c =
    let names = names_in c.args.names.now in
    sym (ap (λ e. least c.args.first.now (tree_faults names (tree_view e))) c.in-Truth.is)

pub expression-returns-in-Name-clause-sort : goal.expression-returns-in-Name-clause-sort
expression-returns-in-Name-clause-sort t c =
    let names = names_in c.args.names.now in
    c.note_reading.ensures.sort ∙ ap reading_sort c.reading.ensures
    ∙ sym (ap (λ e. sort names (tree_view e)) c.in-Name.is)

pub expression-returns-in-Name-clause-noted : goal.expression-returns-in-Name-clause-noted
expression-returns-in-Name-clause-noted t c =
    let names = names_in c.args.names.now in
    c.note_reading.ensures.noted ∙ ap (λ r. least c.args.first.now (reading_faults r)) c.reading.ensures
    ∙ sym (ap (λ e. least c.args.first.now (tree_faults names (tree_view e))) c.in-Name.is)

pub expression-returns-in-Member-clause-sort : goal.expression-returns-in-Member-clause-sort
expression-returns-in-Member-clause-sort t c =
    let names = names_in c.args.names.now in
    c.note_reading-in-Member.ensures.sort ∙ ap reading_sort c.reading-in-Member.ensures
    ∙ ap (λ (m : Member). reading_sort (reading names m.first (Some m.field))) c.content-member.ensures
    ∙ sym (ap (λ e. sort names (tree_view e)) c.in-Member.is)

pub expression-returns-in-Member-clause-noted : goal.expression-returns-in-Member-clause-noted
expression-returns-in-Member-clause-noted t c =
    let names = names_in c.args.names.now in
    c.note_reading-in-Member.ensures.noted ∙ ap (λ r. least c.args.first.now (reading_faults r)) c.reading-in-Member.ensures
    ∙ ap (λ (m : Member). least c.args.first.now (reading_faults (reading names m.first (Some m.field)))) c.content-member.ensures
    ∙ sym (ap (λ e. least c.args.first.now (tree_faults names (tree_view e))) c.in-Member.is)

pub expression-returns-in-Binary-clause-sort : goal.expression-returns-in-Binary-clause-sort
expression-returns-in-Binary-clause-sort t c =
    let names = names_in c.args.names.now in
    let is = ap tree_view c.in-Binary.is ∙ ap₂ (λ x y. binary c.in-Binary.op (tree_view (out-Operands x).left) (tree_view (out-Operands y).right)
    c.in-Binary.at) (sym c.deref.ensures) (sym c.deref-in-Binary.ensures) in
    c.apply.ensures.sort
    ∙ ap₂ (λ a b. unless (kinds_misfit c.in-Binary.op a b || scales_misfit c.in-Binary.op a b) (given a (given b (operator_sort c.in-Binary.op a b))))
    c.expression-a.ensures.sort c.expression-b.ensures.sort
    ∙ sym (ap (sort names) is)

pub expression-returns-in-Binary-clause-noted : goal.expression-returns-in-Binary-clause-noted
expression-returns-in-Binary-clause-noted t c =
    let names = names_in c.args.names.now in
    let op = c.in-Binary.op in
    let left = tree_view (out-Operands c.deref.result.now).left in
    let right = tree_view (out-Operands c.deref-in-Binary.result.now).right in
    let is = ap tree_view c.in-Binary.is ∙ ap₂ (λ x y. binary c.in-Binary.op (tree_view (out-Operands x).left) (tree_view (out-Operands y).right)
    c.in-Binary.at) (sym c.deref.ensures) (sym c.deref-in-Binary.ensures) in
    three_noted (tree_faults names left) (tree_faults names right)
    (misfits (kinds_misfit op (sort names left) (sort names right)) (scales_misfit op (sort names left) (sort names right)) c.in-Binary.at) _ _ _ _
    c.expression-a.ensures.noted c.expression-b.ensures.noted
    (c.apply.ensures.noted
    ∙ ap₂ (λ a b. least c.expression-b.new.first (misfits (kinds_misfit op a b) (scales_misfit op a b) c.in-Binary.at)) c.expression-a.ensures.sort
    c.expression-b.ensures.sort)
    ∙ sym (ap (λ e. least c.args.first.now (tree_faults names e)) is)

pub expression-returns-in-Rest-clause-sort : goal.expression-returns-in-Rest-clause-sort
expression-returns-in-Rest-clause-sort t c =
    let names = names_in c.args.names.now in
    let by = c.content.result.now in
    let is =
    ap tree_view c.in-Rest.is
    ∙ ap (λ x. rest (tree_view x) c.in-Rest.by c.in-Rest.at) (sym c.deref-in-Rest.ensures)
    ∙ ap (λ l. rest (tree_view c.deref-in-Rest.result.now) l c.in-Rest.at) (sym c.content.ensures) in
    c.rest.ensures.sort ∙ ap (λ a. unless (is_truthful a || (differ a (Scaled by.scale) || is_zero by)) a) c.expression-a-in-Rest.ensures.sort
    ∙ sym (ap (sort names) is)

pub expression-returns-in-Rest-clause-noted : goal.expression-returns-in-Rest-clause-noted
expression-returns-in-Rest-clause-noted t c =
    let names = names_in c.args.names.now in
    let part = tree_view c.deref-in-Rest.result.now in
    let by = c.content.result.now in
    let is =
    ap tree_view c.in-Rest.is
    ∙ ap (λ x. rest (tree_view x) c.in-Rest.by c.in-Rest.at) (sym c.deref-in-Rest.ensures)
    ∙ ap (λ l. rest (tree_view c.deref-in-Rest.result.now) l c.in-Rest.at) (sym c.content.ensures) in
    two_noted (tree_faults names part) (misfits (is_truthful (sort names part)) (differ (sort names part) (Scaled by.scale)) c.in-Rest.at
    ++ when (is_zero by) by.at KindDiffers) _ _ _
    c.expression-a-in-Rest.ensures.noted
    (c.rest.ensures.noted ∙ ap (λ a. least c.expression-a-in-Rest.new.first
    (misfits (is_truthful a) (differ a (Scaled by.scale)) c.in-Rest.at ++ when (is_zero by) by.at KindDiffers)) c.expression-a-in-Rest.ensures.sort)
    ∙ sym (ap (λ e. least c.args.first.now (tree_faults names e)) is)

pub expression-returns-in-Neg-clause-sort : goal.expression-returns-in-Neg-clause-sort
expression-returns-in-Neg-clause-sort t c =
    let names = names_in c.args.names.now in
    let is = ap tree_view c.in-Neg.is ∙ ap (λ x. negated (tree_view x) c.in-Neg.at) (sym c.deref-in-Neg.ensures) in
    c.negate.ensures.sort ∙ ap (λ a. unless (is_truthful a) a) c.expression-a-in-Neg.ensures.sort
    ∙ sym (ap (sort names) is)

pub expression-returns-in-Neg-clause-noted : goal.expression-returns-in-Neg-clause-noted
expression-returns-in-Neg-clause-noted t c =
    let names = names_in c.args.names.now in
    let part = tree_view c.deref-in-Neg.result.now in
    let is = ap tree_view c.in-Neg.is ∙ ap (λ x. negated (tree_view x) c.in-Neg.at) (sym c.deref-in-Neg.ensures) in
    two_noted (tree_faults names part) (when (is_truthful (sort names part)) c.in-Neg.at KindDiffers) _ _ _
    c.expression-a-in-Neg.ensures.noted
    (c.negate.ensures.noted ∙ ap (λ a. least c.expression-a-in-Neg.new.first (when (is_truthful a) c.in-Neg.at KindDiffers)) c.expression-a-in-Neg.ensures.sort)
    ∙ sym (ap (λ e. least c.args.first.now (tree_faults names e)) is)

pub expression-returns-in-Not-clause-sort : goal.expression-returns-in-Not-clause-sort
expression-returns-in-Not-clause-sort t c =
    let names = names_in c.args.names.now in
    let is = ap tree_view c.in-Not.is ∙ ap (λ x. denied (tree_view x) c.in-Not.at) (sym c.deref-in-Not.ensures) in
    c.deny.ensures.sort ∙ ap (λ a. unless (is_scaled a) a) c.expression-a-in-Not.ensures.sort
    ∙ sym (ap (sort names) is)

pub expression-returns-in-Not-clause-noted : goal.expression-returns-in-Not-clause-noted
expression-returns-in-Not-clause-noted t c =
    let names = names_in c.args.names.now in
    let part = tree_view c.deref-in-Not.result.now in
    let is = ap tree_view c.in-Not.is ∙ ap (λ x. denied (tree_view x) c.in-Not.at) (sym c.deref-in-Not.ensures) in
    two_noted (tree_faults names part) (when (is_scaled (sort names part)) c.in-Not.at KindDiffers) _ _ _
    c.expression-a-in-Not.ensures.noted
    (c.deny.ensures.noted ∙ ap (λ a. least c.expression-a-in-Not.new.first (when (is_scaled a) c.in-Not.at KindDiffers)) c.expression-a-in-Not.ensures.sort)
    ∙ sym (ap (λ e. least c.args.first.now (tree_faults names e)) is)

pub expression-returns-in-Rescale-clause-sort : goal.expression-returns-in-Rescale-clause-sort
expression-returns-in-Rescale-clause-sort t c =
    let names = names_in c.args.names.now in
    let to = c.content-in-Rescale.result.now in
    let is =
    ap tree_view c.in-Rescale.is
    ∙ ap (λ x. rescaled (tree_view x) c.in-Rescale.to c.in-Rescale.at) (sym c.deref-in-Rescale.ensures)
    ∙ ap (λ l. rescaled (tree_view c.deref-in-Rescale.result.now) l c.in-Rescale.at) (sym c.content-in-Rescale.ensures) in
    c.rescale.ensures.sort ∙ ap (λ a. unless (is_truthful a || is_no_scale to) (given a (Scaled (nat_abs to.mantissa)))) c.expression-a-in-Rescale.ensures.sort
    ∙ sym (ap (sort names) is)

pub expression-returns-in-Rescale-clause-noted : goal.expression-returns-in-Rescale-clause-noted
expression-returns-in-Rescale-clause-noted t c =
    let names = names_in c.args.names.now in
    let part = tree_view c.deref-in-Rescale.result.now in
    let to = c.content-in-Rescale.result.now in
    let is =
    ap tree_view c.in-Rescale.is
    ∙ ap (λ x. rescaled (tree_view x) c.in-Rescale.to c.in-Rescale.at) (sym c.deref-in-Rescale.ensures)
    ∙ ap (λ l. rescaled (tree_view c.deref-in-Rescale.result.now) l c.in-Rescale.at) (sym c.content-in-Rescale.ensures) in
    two_noted (tree_faults names part) (when (is_truthful (sort names part)) c.in-Rescale.at KindDiffers ++ when (is_no_scale to) to.at ScaleDiffers) _ _ _
    c.expression-a-in-Rescale.ensures.noted
    (c.rescale.ensures.noted ∙ ap (λ a. least c.expression-a-in-Rescale.new.first
    (when (is_truthful a) c.in-Rescale.at KindDiffers ++ when (is_no_scale to) to.at ScaleDiffers)) c.expression-a-in-Rescale.ensures.sort)
    ∙ sym (ap (λ e. least c.args.first.now (tree_faults names e)) is)

pub expression-returns-in-If-clause-sort : goal.expression-returns-in-If-clause-sort
expression-returns-in-If-clause-sort t c =
    let names = names_in c.args.names.now in
    let is =
    ap tree_view c.in-If.is
    ∙ ap (λ (x : Choice). chosen (tree_view x.cond) (tree_view c.in-If.choice.value.yes) (tree_view c.in-If.choice.value.no) c.in-If.at)
    (sym c.deref-in-If.ensures)
    ∙ ap₂ (λ (x y : Choice). chosen (tree_view c.deref-in-If.result.now.cond) (tree_view x.yes) (tree_view y.no) c.in-If.at) (sym c.deref-in-If-2.ensures)
    (sym c.deref-in-If-3.ensures) in
    let made = λ (x a b : Sort). unless (branches_misfit x a b || differ a b) (given x (given b a)) in
    c.choose.ensures.sort
    ∙ ap (λ x. made x c.expression-a-in-If.result c.expression-b-in-If.result) c.expression-c.ensures.sort
    ∙ ap₂ (λ a b. made (sort names (tree_view c.deref-in-If.result.now.cond)) a b) c.expression-a-in-If.ensures.sort c.expression-b-in-If.ensures.sort
    ∙ sym (ap (sort names) is)

pub expression-returns-in-If-clause-noted : goal.expression-returns-in-If-clause-noted
expression-returns-in-If-clause-noted t c =
    let names = names_in c.args.names.now in
    let cond = tree_view c.deref-in-If.result.now.cond in
    let yes = tree_view c.deref-in-If-2.result.now.yes in
    let no = tree_view c.deref-in-If-3.result.now.no in
    let faults = λ (x a b : Sort). misfits (branches_misfit x a b) (differ a b) c.in-If.at in
    let done = c.expression-b-in-If.new.first in
    let is =
    ap tree_view c.in-If.is
    ∙ ap (λ (x : Choice). chosen (tree_view x.cond) (tree_view c.in-If.choice.value.yes) (tree_view c.in-If.choice.value.no) c.in-If.at)
    (sym c.deref-in-If.ensures)
    ∙ ap₂ (λ (x y : Choice). chosen (tree_view c.deref-in-If.result.now.cond) (tree_view x.yes) (tree_view y.no) c.in-If.at) (sym c.deref-in-If-2.ensures)
    (sym c.deref-in-If-3.ensures) in
    two_noted (tree_faults names cond) (tree_faults names yes ++ (tree_faults names no ++ faults (sort names cond) (sort names yes) (sort names no))) _ _ _
    c.expression-c.ensures.noted
    (three_noted (tree_faults names yes) (tree_faults names no) (faults (sort names cond) (sort names yes) (sort names no)) _ _ _ _
    c.expression-a-in-If.ensures.noted c.expression-b-in-If.ensures.noted
    (c.choose.ensures.noted
    ∙ ap (λ x. least done (faults x c.expression-a-in-If.result c.expression-b-in-If.result)) c.expression-c.ensures.sort
    ∙ ap₂ (λ a b. least done (faults (sort names cond) a b)) c.expression-a-in-If.ensures.sort c.expression-b-in-If.ensures.sort))
    ∙ sym (ap (λ e. least c.args.first.now (tree_faults names e)) is)
