use Rattle.std.proofs.Common.{◌<◌, length, ap, arith}
use Rattle.sot_lists.proofs.Places.{drop_at, at_below}
use Rattle.sot_lang.specs.Tables.{Tables}
use Rattle.sot_trace.specs.Traces.{text_of}
use Rattle.sot_trace.proofs.Putting.{piece_put}
use Rattle.sot_guard_protocol.specs.Answers.{hold_lines}
use Rattle.sot_guard_protocol.proofs.put.put_holds.Goals as goal

pub loop-k-preserved : goal.loop-k-preserved
loop-k-preserved g c = λ y rest.
    let k = c.loop-k.k in
    let plants = c.args.p.now.plants in
    let below : k < length plants = omega (arith, c.loop-k-test.true, ap (λ (t : Tables). length t.plants) c.p.view_is) in
    let at = at_below plants k below in
    let more = g.met.O.Out.more in
    piece_put g.O.Out.puts more _ _ _ y _ _ _ _ c.put_hold.ensures
    (ap (λ xs. text_of (hold_lines c.args.p.now c.args.time c.args.scalars.now k xs)) (drop_at plants k at.0 at.1)) (c.loop-k.invariant y)
    (more _ _ _ _ _ c.put_byte.ensures rest)
