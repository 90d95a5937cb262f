use Rattle.sot_guard_protocol.proofs.about.put_node_behind.Goals as goal

pub returns : goal.returns
returns g c = g.met.O.Out.more _ _ _ _ _ c.put_byte.ensures c.put_node_name.ensures
