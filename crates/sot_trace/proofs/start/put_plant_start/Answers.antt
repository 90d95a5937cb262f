use Rattle.sot_trace.proofs.start.put_plant_start.Goals as goal

pub returns : goal.returns
returns g c =
    let more = g.met.O.Out.more in
    more _ _ _ _ _ c.put.ensures (more _ _ _ _ _ c.put_name.ensures (more _ _ _ _ _ c.put_byte.ensures c.put_point.ensures))
