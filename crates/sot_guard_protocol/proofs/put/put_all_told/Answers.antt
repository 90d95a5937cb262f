use Rattle.std.proofs.Common.{ap, map, refl}
use Rattle.sot_lists.proofs.Places.{drop_at, read_at}
use Rattle.sot_trace.specs.Traces.{text_of}
use Rattle.sot_trace.proofs.Putting.{piece_put}
use Rattle.sot_guard_protocol.specs.Answers.{told_line}
use Rattle.sot_guard_protocol.proofs.Told.{there_at}
use Rattle.sot_guard_protocol.proofs.put.put_all_told.Goals as goal

pub put_told-requires : goal.put_told-requires
put_told-requires g c =
    there_at c.args.p.now c.args.told.now c.loop-i.i _ c.requires
    (read_at c.args.told.now c.args.told.now c.loop-i.i _ refl c.loop-i-test.true c.index-told-i.is)

pub loop-i-preserved : goal.loop-i-preserved
loop-i-preserved g c = λ y rest.
    let i = c.loop-i.i in
    let told = c.args.told.now in
    let one = read_at told told i _ refl c.loop-i-test.true c.index-told-i.is in
    let more = g.met.O.Out.more in
    piece_put g.O.Out.puts more _ _ _ y _ _ _ _ c.put_told.ensures
    (ap (λ ts. text_of (map (told_line c.args.p.now c.args.time) ts)) (drop_at told i _ one)) (c.loop-i.invariant y)
    (more _ _ _ _ _ c.put_byte.ensures rest)
