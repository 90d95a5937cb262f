use Rattle.std.proofs.Common.{◌≡◌, ◌<◌, ◌≤◌, ◌-◌, suc, length, get_or, sym, ap, ◌∙◌, arith}
use Rattle.sot_flight.proofs.Listed.{row_before, row_past, some_rows}
use Rattle.sot_flight.proofs.rows.row_of.Goals as goal

pub returns-then-number-last : goal.returns-then-number-last
returns-then-number-last g c =
    let rows = c.args.rows.now in
    let below : suc c.args.number < length rows.items = omega (arith, c.len-last.ensures, rows.ok.0, c.if-number-last.true) in
    c.deref.ensures.value ∙ ap (λ row. row.items) c.index.ensures ∙ sym (row_before (λ row. row.items) rows.items c.args.number c.index.result.now below)

pub returns-else-number-last : goal.returns-else-number-last
returns-else-number-last g c =
    let rows = c.args.rows.now in
    let some = some_rows rows.items c.requires in
    let past : length rows.items ≤ suc c.args.number = omega (arith, c.len-last.ensures, rows.ok.0, c.if-number-last.false) in
    let last : c.len-last.result - 1 ≡ length rows.items - 1 = omega (arith, c.len-last.ensures, rows.ok.0) in
    c.deref-else-number-last.ensures.value
    ∙ ap (λ row. row.items) (c.index-else-number-last.ensures ∙ ap (λ n. get_or rows.items n c.index-else-number-last.result.now) last)
    ∙ sym (row_past (λ row. row.items) rows.items c.args.number c.index-else-number-last.result.now some past)
