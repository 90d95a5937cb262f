use Rattle.std.proofs.Common.{ℕ, slice_index_or, arith}
use Rattle.std.proofs.lemmas.Option.{slice_get-get_or}
use Rattle.sot_trace.proofs.Putting.{piece_put}
use Rattle.sot_trace.proofs.Drafts.{text_more, refused_more}
use Rattle.sot_trace.proofs.draft.put_draft.Goals as goal

pub loop-i-preserved : goal.loop-i-preserved
loop-i-preserved g c =
    let k : ℕ = slice_index_or c.args.writes.now c.loop-i.i 0 in
    let at = slice_get-get_or c.args.writes.now c.loop-i.i 0 c.loop-i-test.true in
    let text = text_more c.args.p.now c.args.writes.now c.args.draft.now c.loop-i.i k c.get.result at c.get.ensures in
    let refused = refused_more c.args.p.now c.args.writes.now c.args.draft.now c.loop-i.i k c.get.result at c.get.ensures in
    record {
      text = λ y rest. piece_put g.O.Out.puts g.met.O.Out.more _ _ _ y _ _ _ _ c.put_slot-refused.ensures.text text (c.loop-i.invariant.text y) rest;
      refused = omega (arith, refused, c.put_slot-refused.ensures.refused, c.loop-i.invariant.refused);
      few = omega (arith, c.put_slot-refused.ensures.few, c.loop-i.invariant.few);
    }
