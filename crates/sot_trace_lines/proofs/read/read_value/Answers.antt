use Rattle.std.proofs.Common.{◌≡◌, true, length, Some, sym, ap, ◌∙◌, subst, rules}
use Rattle.sot_trace_lines.specs.declared.line.Line.TheVariants.{Input}
use Rattle.sot_trace_lines.specs.Pieces.{row_at}
use Rattle.sot_trace_lines.specs.Kept.{kept_row, ShowsRead}
use Rattle.sot_trace_lines.proofs.ShownLines.{is_empty, value_is, input_shown}
use Rattle.sot_trace_lines.proofs.read.read_value.Goals as goal

pub returns-clause-read : goal.returns-clause-read
returns-clause-read c =
    let value = c.in-Some-2.value in
    let info = c.args.info.now in
    let text = c.in-Some.text.now in
    let list = c.row_at.new.numbers.items in
    let none : length value.rest.now ≡ 0 = search rules in
    let outside : info.outside ≡ true = search rules in
    let kept = ap (λ items. kept_row (items, true) (row_at info.count text)) (sym c.requires) ∙ sym (rw c.in-Some-2.is at c.in_ok-value.ensures.read) in
    λ t is.
    subst (ShowsRead list (Some (Input c.args.time c.args.topic value.whole)))
    (sym (value_is t c.args.topic info c.args.text.now text outside (sym c.in-Some.ensures)))
    (input_shown list value.whole value.rest.now c.args.time t c.args.topic (row_at info.count text) kept (is_empty value.rest.now none) is)
