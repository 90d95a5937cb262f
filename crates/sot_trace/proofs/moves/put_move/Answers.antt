use Rattle.sot_trace.proofs.moves.put_move.Goals as goal

pub returns : goal.returns
returns g c =
    let more = g.met.O.Out.more in
    more _ _ _ _ _ c.put_byte.ensures (more _ _ _ _ _ c.put_name.ensures (more _ _ _ _ _ c.put_byte-2.ensures (more _ _ _ _ _ c.put_numbers.ensures
    (more _ _ _ _ _ c.put_result_sign.ensures c.put_numbers-2.ensures))))
