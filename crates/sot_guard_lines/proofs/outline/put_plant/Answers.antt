use Rattle.std.proofs.Common.{ap, codes}
use Rattle.sot_trace.proofs.Putting.{put_so}
use Rattle.sot_guard_lines.specs.Outline.{states_text, scalars_text}
use Rattle.sot_guard_lines.proofs.outline.put_plant.Goals as goal

pub returns : goal.returns
returns g c =
    let name = c.args.plant.now.name in
    let states = put_so g.O.Out.puts _ _ _ _ c.put_states.ensures (ap (states_text name) c.deref.ensures.value) in
    let commands = put_so g.O.Out.puts _ _ _ _ c.put_scalars.ensures
    (ap (scalars_text (codes "command") name c.args.p.now) c.deref-2.ensures.value) in
    g.met.O.Out.more _ _ _ _ _ states commands
