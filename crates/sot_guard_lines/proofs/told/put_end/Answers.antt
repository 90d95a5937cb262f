use Rattle.sot_guard_lines.proofs.told.put_end.Goals as goal

pub returns : goal.returns
returns g c =
    let more = g.met.O.Out.more in
    more _ _ _ _ _ c.put.ensures (more _ _ _ _ _ c.put_time.ensures (more _ _ _ _ _ c.put-2.ensures c.put_count.ensures))
