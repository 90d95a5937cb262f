use Rattle.std.proofs.Common.{ap, w64}
use Rattle.std.proofs.lemmas.Int.{to_z-of_z}
use Rattle.sot_trace.proofs.Putting.{put_so}
use Rattle.sot_guard_lines.specs.Lines.{observed_text}
use Rattle.sot_guard_lines.proofs.told.put_outside.Goals as goal

pub returns : goal.returns
returns g c =
    let more = g.met.O.Out.more in
    let observed = put_so g.O.Out.puts _ _ _ _ c.put_observed.ensures (ap (λ z. observed_text c.args.bounds z) (to_z-of_z w64 c.args.value c.ranges.value)) in
    more _ _ _ _ _ c.put_time.ensures (more _ _ _ _ _ c.put.ensures (more _ _ _ _ _ c.put_plant.ensures (more _ _ _ _ _ c.put-2.ensures
    (more _ _ _ _ _ c.put_state.ensures observed))))
