use Rattle.sot_trace.proofs.text.put_counts.Goals as goal

pub returns : goal.returns
returns g c =
    let more = g.met.O.Out.more in
    more _ _ _ _ _ c.put.ensures (more _ _ _ _ _ c.put_count.ensures (more _ _ _ _ _ c.put-2.ensures (more _ _ _ _ _ c.put_count-2.ensures
    (more _ _ _ _ _ c.put-3.ensures c.put_count-3.ensures))))
