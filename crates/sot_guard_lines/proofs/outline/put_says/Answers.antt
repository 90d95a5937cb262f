use Rattle.sot_guard_lines.proofs.outline.put_says.Goals as goal

pub returns : goal.returns
returns g c =
    let more = g.met.O.Out.more in
    more _ _ _ _ _ c.put.ensures (more _ _ _ _ _ c.put-2.ensures (more _ _ _ _ _ c.put_byte.ensures c.put_name.ensures))
