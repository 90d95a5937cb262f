use Rattle.sot_trace.proofs.line.put_decision.Goals as goal

pub returns : goal.returns
returns g c =
    let more = g.met.O.Out.more in
    more _ _ _ _ _ c.put_time.ensures (more _ _ _ _ _ c.put.ensures (more _ _ _ _ _ c.put_module.ensures c.put_mode.ensures))
