use Rattle.std.proofs.Common.{ap, refl}
use Rattle.sot_lists.proofs.Places.{drop_at, read_at}
use Rattle.sot_trace.proofs.Putting.{piece_put}
use Rattle.sot_guard_lines.specs.Outline.{states_text}
use Rattle.sot_guard_lines.proofs.outline.put_states.Goals as goal

pub loop-i-preserved : goal.loop-i-preserved
loop-i-preserved g c = λ y rest.
    let xs = c.args.states.now in
    let i = c.loop-i.i in
    let at = read_at xs xs i c.index-states-i.result refl c.loop-i-test.true c.index-states-i.is in
    piece_put g.O.Out.puts g.met.O.Out.more _ _ _ y _ _ _ _ c.put_state.ensures
    (ap (λ l. states_text c.args.plant.now l) (drop_at xs i c.index-states-i.result at)) (c.loop-i.invariant y) rest
