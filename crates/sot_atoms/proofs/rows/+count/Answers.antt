use Rattle.std.proofs.Common.{◌≡◌, ◌+◌, ◌*◌, ◌<◌, length, arith, rules}
use Rattle.sot_atoms.proofs.RowBytes.{some_atom, room_at}
use Rattle.sot_atoms.proofs.rows.+count.Goals as goal

pub each_count-overflow_mul-before : goal.each_count-overflow_mul-before
each_count-overflow_mul-before t c =
    let some = some_atom c.args.inner.now c.args.within.now c.requires.fits in
    let lt : c.args.before * c.args.size + c.loop-a.a < length c.args.bytes.now = room_at c.args.before c.args.size c.loop-a.a _ _ c.requires.room
    (omega arith) some in
    let less : c.args.before * c.args.size < length c.args.bytes.now = omega arith in
    first_of (search rules, omega arith)

pub each_count-overflow_add-before : goal.each_count-overflow_add-before
each_count-overflow_add-before t c =
    let some = some_atom c.args.inner.now c.args.within.now c.requires.fits in
    let lt : c.args.before * c.args.size + c.loop-a.a < length c.args.bytes.now = room_at c.args.before c.args.size c.loop-a.a _ _ c.requires.room
    (omega arith) some in
    first_of (search rules, omega arith)
