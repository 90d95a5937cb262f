use Rattle.std.proofs.Common.{ap, sym, rules, w64, SFits}
use Rattle.std.proofs.lemmas.Int.{to_z-of_z}
use Rattle.sot_lists.proofs.Places.{drop_at}
use Rattle.sot_trace.specs.Numbers.{signed_numeral, numbers}
use Rattle.sot_trace.proofs.Putting.{put_so}
use Rattle.sot_trace.proofs.start.put_point.Goals as goal

pub returns : goal.returns
returns g c =
    let fits : SFits w64 c.at.result = search rules in
    let number = put_so g.O.Out.puts _ _ _ _ c.put_number.ensures (ap signed_numeral (to_z-of_z w64 c.at.result fits)) in
    put_so g.O.Out.puts _ _ _ _ (g.met.O.Out.more _ _ _ _ _ number c.put_further_coordinates.ensures)
    (sym (ap numbers (drop_at c.args.point.now 0 c.at.result c.at.ensures)))
