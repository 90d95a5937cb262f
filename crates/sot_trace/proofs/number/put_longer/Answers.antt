use Rattle.std.proofs.Common.{◌∙◌, ap, sym, w64}
use Rattle.std.proofs.lemmas.Int.{to_z-of_z}
use Rattle.sot_trace.specs.Numbers.{signed_numeral}
use Rattle.sot_trace.proofs.Putting.{put_so}
use Rattle.sot_trace.proofs.number.put_longer.Goals as goal

pub returns-in-Some : goal.returns-in-Some
returns-in-Some g c =
    put_so g.O.Out.puts _ _ _ _ (g.met.O.Out.more _ _ _ _ _ c.put_byte.ensures c.put_byte-in-Some.ensures)
    (sym c.in-Some.ensures.numeral ∙ ap signed_numeral (to_z-of_z w64 c.args.number c.ranges.number))
