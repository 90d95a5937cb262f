use Rattle.std.proofs.Common.{◌≡◌, ◌+◌, ◌*◌, ◌<◌, length, arith, rules}
use Rattle.std.proofs.lemmas.Bool.Decides.{nat_tests}
use Rattle.sot_atoms.proofs.RowBytes.{some_atom, room_at, lacks_by_none, lacks_by_each, lacks_by_row}
use Rattle.sot_atoms.proofs.rows.+lacks.Goals as goal

pub each_lacks-overflow_mul-before : goal.each_lacks-overflow_mul-before
each_lacks-overflow_mul-before t c =
    let some = some_atom c.args.inner.now c.args.within.now c.requires.fits in
    let lt : c.args.before * c.args.size + c.loop-a.a < length c.args.bytes.now = room_at c.args.before c.args.size c.loop-a.a _ _ c.requires.room
    (omega arith) some in
    let less : c.args.before * c.args.size < length c.args.bytes.now = omega arith in
    first_of (search rules, omega arith)

pub each_lacks-overflow_add-before : goal.each_lacks-overflow_add-before
each_lacks-overflow_add-before t c =
    let some = some_atom c.args.inner.now c.args.within.now c.requires.fits in
    let lt : c.args.before * c.args.size + c.loop-a.a < length c.args.bytes.now = room_at c.args.before c.args.size c.loop-a.a _ _ c.requires.room
    (omega arith) some in
    first_of (search rules, omega arith)

pub lacks-returns-in_default : goal.lacks-returns-in_default
lacks-returns-in_default t c =
    let none : length c.args.axes.now ≡ 0 = first_of (omega (arith, c.in_default.ensures.cases), search rules) in
    lacks_by_none c.args.byte c.args.bytes.now c.args.before c.args.axes.now c.args.sides.now none c.requires.fits

pub lacks-returns-then-is_empty : goal.lacks-returns-then-is_empty
lacks-returns-then-is_empty t c =
    let none : length c.in-Some.inner.now ≡ 0 = grind (arith, nat_tests) in
    lacks_by_row c.args.axes.now c.args.sides.now c.in-Some.axis.now c.in-Some.inner.now c.in-Some-split_first.side.now c.in-Some-split_first.within.now
    c.in-Some.ensures.cases.0 c.in-Some-split_first.ensures.cases.0 c.requires.fits
    c.args.byte c.args.bytes.now c.args.before c.row_lacks.result none c.row_lacks.ensures

pub lacks-returns : goal.lacks-returns
lacks-returns t c =
    lacks_by_each c.args.axes.now c.args.sides.now c.in-Some.axis.now c.in-Some.inner.now c.in-Some-split_first.side.now c.in-Some-split_first.within.now
    c.in-Some.ensures.cases.0 c.in-Some-split_first.ensures.cases.0 c.requires.fits
    c.args.byte c.args.bytes.now c.args.before c.each_lacks.result c.each_lacks.ensures
