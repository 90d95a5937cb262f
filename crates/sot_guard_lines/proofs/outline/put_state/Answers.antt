use Rattle.sot_guard_lines.proofs.outline.put_state.Goals as goal

pub returns : goal.returns
returns g c =
    let more = g.met.O.Out.more in
    more _ _ _ _ _ c.put_says.ensures (more _ _ _ _ _ c.put_byte.ensures (more _ _ _ _ _ c.put_name.ensures c.put_range.ensures))
