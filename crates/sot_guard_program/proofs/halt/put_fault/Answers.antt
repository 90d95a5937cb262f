use Rattle.sot_guard_program.proofs.halt.put_fault.Goals as goal

pub returns : goal.returns
returns g c =
    let more = g.met.O.Out.more in
    more _ _ _ _ _ c.put.ensures (more _ _ _ _ _ c.put_count.ensures (more _ _ _ _ _ c.put_byte.ensures (more _ _ _ _ _ c.put-2.ensures c.put_byte-2.ensures)))
