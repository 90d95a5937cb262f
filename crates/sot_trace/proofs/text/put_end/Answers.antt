use Rattle.sot_trace.proofs.text.put_end.Goals as goal

pub returns : goal.returns
returns g c = g.met.O.Out.more _ _ _ _ _ c.put_counts.ensures c.put_byte.ensures
