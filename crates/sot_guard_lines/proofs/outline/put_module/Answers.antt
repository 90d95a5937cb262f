use Rattle.sot_guard_lines.proofs.outline.put_module.Goals as goal

pub returns : goal.returns
returns g c = g.met.O.Out.more _ _ _ _ _ c.put_says.ensures c.put_byte.ensures
