use Rattle.sot_guard_lines.proofs.resumed.put_refused_resume.Goals as goal

pub returns : goal.returns
returns g c =
    let more = g.met.O.Out.more in
    more _ _ _ _ _ c.put_time.ensures (more _ _ _ _ _ c.put.ensures c.put_module.ensures)
