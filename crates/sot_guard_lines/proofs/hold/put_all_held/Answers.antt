use Rattle.std.proofs.Common.{ℕ, ℤ, pos, ap, slice_index_or, rules, w64, SFits}
use Rattle.std.proofs.lemmas.Int.{to_z-of_z}
use Rattle.std.proofs.lemmas.Option.{slice_get-get_or}
use Rattle.sot_lists.proofs.Places.{drop_at}
use Rattle.sot_trace.proofs.Putting.{put_so, piece_put}
use Rattle.sot_guard_lines.specs.Lines.{held_text, all_held}
use Rattle.sot_guard_lines.proofs.hold.put_all_held.Goals as goal

pub loop-i-preserved : goal.loop-i-preserved
loop-i-preserved g c = λ y rest.
    let ks = c.args.inputs.now in
    let i = c.loop-i.i in
    let k : ℕ = slice_index_or ks i 0 in
    let z : ℤ = slice_index_or c.args.scalars.now k (pos 0) in
    let at = slice_get-get_or ks i 0 c.loop-i-test.true in
    let fits : SFits w64 z = search rules in
    let one = put_so g.O.Out.puts _ _ _ (held_text c.args.p.now k z) c.put_held.ensures (ap (held_text c.args.p.now k) (to_z-of_z w64 z fits)) in
    piece_put g.O.Out.puts g.met.O.Out.more _ _ _ y _ _ _ _ one
    (ap (λ l. all_held c.args.p.now l c.args.scalars.now) (drop_at ks i k at)) (c.loop-i.invariant y) rest
