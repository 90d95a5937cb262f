use Rattle.std.proofs.Common.{ap, refl, arith}
use Rattle.sot_lists.proofs.Places.{drop_at, read_at}
use Rattle.sot_trace.proofs.Putting.{piece_put}
use Rattle.sot_guard_lines.specs.Outline.{inputs_text}
use Rattle.sot_guard_lines.proofs.outline.put_inputs.Goals as goal

pub loop-k-preserved : goal.loop-k-preserved
loop-k-preserved g c = λ y rest.
    let xs = c.args.scalars.now in
    let k = c.loop-k.k in
    let at = read_at xs xs k c.index-scalars-k.result refl c.loop-k-test.true c.index-scalars-k.is in
    piece_put g.O.Out.puts g.met.O.Out.more _ _ _ y _ _ _ _ c.put_input.ensures
    (ap (λ l. inputs_text c.args.p.now k l) (drop_at xs k c.index-scalars-k.result at)) (c.loop-k.invariant y) rest
