use Rattle.sot_trace.proofs.moves.put_result_sign.Goals as goal

pub returns : goal.returns
returns g c = g.met.O.Out.more _ _ _ _ _ c.put_byte.ensures c.put_byte-2.ensures
