use Rattle.std.proofs.Common.{ap₂, refl, arith}
use Rattle.sot_lists.proofs.Places.{drop_at, read_at}
use Rattle.sot_trace.specs.Lines.{start_lines}
use Rattle.sot_trace.specs.Traces.{text_of}
use Rattle.sot_trace.proofs.Putting.{piece_put}
use Rattle.sot_trace.proofs.start.put_starts.Goals as goal

pub loop-i-preserved : goal.loop-i-preserved
loop-i-preserved g c = λ y rest.
    let i = c.loop-i.i in
    let plants = c.args.plants.now in
    let starts = c.args.start.now in
    let one = read_at plants plants i _ refl c.loop-i-test.true c.index-plants-i.is in
    let its = read_at starts starts i _ refl (omega (arith, c.requires, c.loop-i-test.true)) c.index-start-i.is in
    let more = g.met.O.Out.more in
    piece_put g.O.Out.puts more _ _ _ y _ _ _ _ c.put_plant_start.ensures
    (ap₂ (λ ks xs. text_of (start_lines ks xs)) (drop_at plants i _ one) (drop_at starts i _ its)) (c.loop-i.invariant y)
    (more _ _ _ _ _ c.put_byte.ensures rest)
