use Rattle.sot_guard_lines.proofs.resumed.put_resumed.Goals as goal

pub returns : goal.returns
returns g c = g.met.O.Out.more _ _ _ _ _ c.put_time.ensures c.put.ensures
