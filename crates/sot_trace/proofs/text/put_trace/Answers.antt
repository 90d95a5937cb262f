use Rattle.sot_trace.proofs.Laying.{whole_trace}
use Rattle.sot_trace.proofs.Putting.{put_so}
use Rattle.sot_trace.proofs.text.put_trace.Goals as goal

pub returns : goal.returns
returns g c =
    let more = g.met.O.Out.more in
    let counts = c.put_entries-counts.ensures in
    put_so g.O.Out.puts _ _ _ _ (more _ _ _ _ _ (more _ _ _ _ _ c.put_front.ensures counts.text) c.put_end.ensures)
    (whole_trace c.args.p.now c.args.start.now c.args.history.now.entries _ _ _ counts.ticks c.len.ensures counts.refused)
