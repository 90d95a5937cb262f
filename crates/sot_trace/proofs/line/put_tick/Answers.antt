use Rattle.std.proofs.Common.{ap, ◌∙◌}
use Rattle.sot_trace.specs.Moves.{moves_text}
use Rattle.sot_trace.proofs.Putting.{put_so}
use Rattle.sot_trace.proofs.line.put_tick.Goals as goal

pub returns : goal.returns
returns g c =
    let more = g.met.O.Out.more in
    let plants = c.deref.ensures.value ∙ ap (λ t. t.plants) c.p.view_is in
    let moves = put_so g.O.Out.puts _ _ _ _ c.put_moves.ensures (ap (λ ks. moves_text ks c.args.noise.now c.args.states.now) plants) in
    more _ _ _ _ _ c.put_time.ensures (more _ _ _ _ _ c.put.ensures moves)
