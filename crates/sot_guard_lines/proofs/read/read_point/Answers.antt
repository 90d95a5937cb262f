use Rattle.std.proofs.Common.{◌≡◌, true, length, refl, sym, ap, ◌∙◌, rules}
use Rattle.sot_trace_lines.specs.Kept.{kept_row}
use Rattle.sot_trace_lines.proofs.ShownLines.{is_empty}
use Rattle.sot_guard_lines.specs.declared.said.Said.TheVariants.{Start}
use Rattle.sot_guard_lines.specs.Sayings.{StartSaid}
use Rattle.sot_guard_lines.specs.Readers.{point_at}
use Rattle.sot_guard_lines.proofs.ShownSaid.{row_shown}
use Rattle.sot_guard_lines.proofs.read.read_point.Goals as goal

pub returns-clause-said : goal.returns-clause-said
returns-clause-said c =
    let point = c.in-Some.point in
    let none : length point.rest.now ≡ 0 = search rules in
    let kept = ap (λ items. kept_row (items, true) (point_at c.args.plant.now c.args.text.now)) (sym c.requires.none)
    ∙ sym c.in-Some.ensures.read in
    row_shown c.point_at.new.numbers.items point.whole point.rest.now (λ v. StartSaid c.args.k v) (Start c.args.k point.whole)
    (point_at c.args.plant.now c.args.text.now) kept (is_empty point.rest.now none) (λ v holds. (v, refl, holds))
