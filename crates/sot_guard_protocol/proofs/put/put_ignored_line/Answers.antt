use Rattle.sot_trace.proofs.Putting.{put_so}
use Rattle.sot_guard_protocol.proofs.put.put_ignored_line.Goals as goal

pub returns : goal.returns
returns g c =
    let more = g.met.O.Out.more in
    let puts = g.O.Out.puts in
    let word = put_so puts _ _ _ _ c.put-2.ensures c.aside_word.ensures in
    let why = put_so puts _ _ _ _ c.put-3.ensures c.misheard_word.ensures in
    more _ _ _ _ _ c.put_time.ensures (more _ _ _ _ _ c.put.ensures (more _ _ _ _ _ word
    (more _ _ _ _ _ c.put_about.ensures (more _ _ _ _ _ c.put_byte.ensures why))))
