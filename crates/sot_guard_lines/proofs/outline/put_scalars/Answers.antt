use Rattle.std.proofs.Common.{ℕ, ap, slice_index_or}
use Rattle.std.proofs.lemmas.Option.{slice_get-get_or}
use Rattle.sot_lists.proofs.Places.{drop_at}
use Rattle.sot_trace.proofs.Putting.{piece_put}
use Rattle.sot_guard_lines.specs.Outline.{scalars_text}
use Rattle.sot_guard_lines.proofs.outline.put_scalars.Goals as goal

pub put_scalar-requires : goal.put_scalar-requires
put_scalar-requires g c =
    c.requires c.loop-i.i _ (slice_get-get_or c.args.scalars.now c.loop-i.i 0 c.loop-i-test.true)

pub loop-i-preserved : goal.loop-i-preserved
loop-i-preserved g c = λ y rest.
    let ks = c.args.scalars.now in
    let i = c.loop-i.i in
    let k : ℕ = slice_index_or ks i 0 in
    let at = slice_get-get_or ks i 0 c.loop-i-test.true in
    piece_put g.O.Out.puts g.met.O.Out.more _ _ _ y _ _ _ _ c.put_scalar.ensures
    (ap (λ l. scalars_text c.args.kind.now c.args.name.now c.args.p.now l) (drop_at ks i k at)) (c.loop-i.invariant y) rest
