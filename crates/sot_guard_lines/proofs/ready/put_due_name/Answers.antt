use Rattle.std.proofs.Common.{sym, ◌∙◌}
use Rattle.sot_trace.proofs.Putting.{put_so}
use Rattle.sot_guard_lines.proofs.Chosen.{chosen}
use Rattle.sot_guard_lines.proofs.ready.put_due_name.Goals as goal

pub returns-then-is_asked : goal.returns-then-is_asked
returns-then-is_asked g c =
    let is = sym c.is_asked.ensures ∙ c.if-is_asked.true in
    put_so g.O.Out.puts _ _ _ _ (g.met.O.Out.more _ _ _ _ _ c.put_byte.ensures c.put_name.ensures) (sym (chosen _ _ _ is))
