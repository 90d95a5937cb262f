use Rattle.std.proofs.Common.{ap, ◌∷◌, [], rules, w64, SFits}
use Rattle.std.proofs.lemmas.Int.{to_z-of_z}
use Rattle.sot_lists.proofs.Places.{drop_at}
use Rattle.sot_trace.specs.Numbers.{signed_numeral, further}
use Rattle.sot_trace.proofs.Putting.{put_so, piece_put}
use Rattle.sot_trace.proofs.start.put_further_coordinates.Goals as goal

pub loop-i-preserved : goal.loop-i-preserved
loop-i-preserved g c = λ y rest.
    let fits : SFits w64 c.at.result = search rules in
    let more = g.met.O.Out.more in
    let number = put_so g.O.Out.puts _ _ _ _ c.put_number.ensures (ap signed_numeral (to_z-of_z w64 c.at.result fits)) in
    piece_put g.O.Out.puts more _ _ _ y (44 ∷ []) _ _ _ c.put_byte.ensures (ap further (drop_at c.args.point.now c.loop-i.i c.at.result c.at.ensures))
    (c.loop-i.invariant y) (more _ _ _ _ _ number rest)
