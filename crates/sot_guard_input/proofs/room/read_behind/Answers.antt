use Rattle.std.proofs.Common.{◌≡◌, ◌+◌, ◌-◌, ◌≤◌, length, take, drop, arith}
use Rattle.std.proofs.Common.{length-drop}
use Rattle.std.proofs.lemmas.List.{length-take, length-take-le}
use Rattle.sot_guard_input.proofs.Ends.{put_behind}
use Rattle.sot_guard_input.proofs.room.read_behind.Goals as goal

pub returns-in-Ok-clause-more : goal.returns-in-Ok-clause-more
returns-in-Ok-clause-more g c =
    let room = c.args.bytes.now in
    let end = c.args.end in
    let n = c.in-Ok.count in
    let buf = c.read.new.buf in
    let few = c.in-Ok.ensures.bound.0 in
    let same = c.read.auto.buf in
    let all : length room ≡ _ = c.requires.room in
    let within : end + n ≤ 65536 = omega (arith, c.requires.some, all, few, same, length-take (length room - end) (drop end room), length-drop end room) in
    let put = put_behind room buf _ end n (omega (arith, c.requires.some, all)) few in
    (within, (take n buf, length-take-le n buf few, c.in-Ok.ensures.bytes.0, put))
