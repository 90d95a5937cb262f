use Rattle.std.proofs.Common.{◌≡◌, ◌+◌, ◌*◌, ◌<◌, length, arith, rules}
use Rattle.std.proofs.lemmas.Bool.Decides.{nat_tests}
use Rattle.sot_atoms.proofs.RowBytes.{some_atom, room_at, fills_more, fills_by_none, fills_by_each, fills_by_row}
use Rattle.sot_atoms.proofs.rows.+fill.Goals as goal

pub each_fill-overflow_mul-before : goal.each_fill-overflow_mul-before
each_fill-overflow_mul-before t c =
    let some = some_atom c.args.inner.now c.args.within.now c.requires.fits in
    let lt : c.args.before * c.args.size + c.loop-a.a < length c.args.bytes.now = room_at c.args.before c.args.size c.loop-a.a _ _ c.requires.room
    (omega arith) some in
    let less : c.args.before * c.args.size < length c.args.bytes.now = omega arith in
    first_of (search rules, omega arith)

pub each_fill-overflow_add-before : goal.each_fill-overflow_add-before
each_fill-overflow_add-before t c =
    let some = some_atom c.args.inner.now c.args.within.now c.requires.fits in
    let lt : c.args.before * c.args.size + c.loop-a.a < length c.args.bytes.now = room_at c.args.before c.args.size c.loop-a.a _ _ c.requires.room
    (omega arith) some in
    first_of (search rules, omega arith)

pub each_fill-loop-a-preserved : goal.each_fill-loop-a-preserved
each_fill-loop-a-preserved t c =
    fills_more c.args.byte c.args.bytes.now c.loop-a.bytes c.fill.new.bytes c.args.size c.args.side.from c.loop-a.a c.args.inner.now c.args.within.now
    c.args.before
    c.loop-a.invariant c.fill.ensures (omega arith)

pub fill-returns-in_default : goal.fill-returns-in_default
fill-returns-in_default t c =
    let none : length c.args.axes.now ≡ 0 = first_of (omega (arith, c.in_default.ensures.cases), search rules) in
    fills_by_none c.args.byte c.args.bytes.now c.fill_row.new.bytes c.args.before c.args.axes.now c.args.sides.now none c.requires.fits
    c.fill_row.ensures.inside c.fill_row.ensures.outside

pub fill-returns-then-is_empty : goal.fill-returns-then-is_empty
fill-returns-then-is_empty t c =
    let none : length c.in-Some.inner.now ≡ 0 = grind (arith, nat_tests) in
    fills_by_row c.args.axes.now c.args.sides.now c.in-Some.axis.now c.in-Some.inner.now c.in-Some-split_first.side.now c.in-Some-split_first.within.now
    c.in-Some.ensures.cases.0 c.in-Some-split_first.ensures.cases.0 c.requires.fits
    c.args.byte c.args.bytes.now c.fill_row-then-is_empty.new.bytes c.args.before none c.fill_row-then-is_empty.ensures.inside
    c.fill_row-then-is_empty.ensures.outside

pub fill-returns : goal.fill-returns
fill-returns t c =
    fills_by_each c.args.axes.now c.args.sides.now c.in-Some.axis.now c.in-Some.inner.now c.in-Some-split_first.side.now c.in-Some-split_first.within.now
    c.in-Some.ensures.cases.0 c.in-Some-split_first.ensures.cases.0 c.requires.fits
    c.args.byte c.args.bytes.now c.each_fill.new.bytes c.args.before c.each_fill.ensures
