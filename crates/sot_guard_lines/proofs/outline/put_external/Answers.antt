use Rattle.std.proofs.Common.{ap, codes}
use Rattle.sot_trace.proofs.Putting.{put_so}
use Rattle.sot_guard_lines.specs.Outline.{scalars_text}
use Rattle.sot_guard_lines.proofs.outline.put_external.Goals as goal

pub returns : goal.returns
returns g c =
    let more = g.met.O.Out.more in
    let drafts = put_so g.O.Out.puts _ _ _ _ c.put_scalars.ensures
    (ap (scalars_text (codes "draft") c.args.node.now.name c.args.p.now) c.deref.ensures.value) in
    more _ _ _ _ _ c.put_says.ensures (more _ _ _ _ _ c.put_byte.ensures drafts)
