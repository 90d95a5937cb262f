use Rattle.std.proofs.Common.{ℤ, ap, ◌∷◌, [], pos, slice_index_or, rules, w64, SFits}
use Rattle.std.proofs.lemmas.Int.{to_z-of_z}
use Rattle.std.proofs.lemmas.Option.{slice_get-get_or}
use Rattle.sot_lists.proofs.Places.{drop_at}
use Rattle.sot_trace.specs.Numbers.{signed_numeral, further}
use Rattle.sot_trace.proofs.Putting.{put_so, piece_put}
use Rattle.sot_trace.proofs.number.put_further.Goals as goal

pub loop-number-preserved : goal.loop-number-preserved
loop-number-preserved g c = λ y rest.
    let i = c.loop-number.number-index in
    let xs = c.args.more.now in
    let x : ℤ = slice_index_or xs i (pos 0) in
    let fits : SFits w64 x = search rules in
    let number = put_so g.O.Out.puts _ _ _ _ c.put_number.ensures (ap signed_numeral (to_z-of_z w64 x fits)) in
    let more = g.met.O.Out.more in
    piece_put g.O.Out.puts more _ _ _ y (44 ∷ []) _ _ _ c.put_byte.ensures (ap further (drop_at xs i x (slice_get-get_or xs i (pos 0) c.loop-number-test.true)))
    (c.loop-number.invariant y) (more _ _ _ _ _ number rest)
