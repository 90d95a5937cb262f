use Rattle.sot_trace.proofs.Putting.{put_so}
use Rattle.sot_guard_protocol.proofs.put.put_blind_line.Goals as goal

pub returns : goal.returns
returns g c =
    let more = g.met.O.Out.more in
    let why = put_so g.O.Out.puts _ _ _ _ c.put-2.ensures c.misheard_word.ensures in
    more _ _ _ _ _ c.put_time.ensures (more _ _ _ _ _ c.put.ensures why)
