use Rattle.std.proofs.Common.{arith}
use Rattle.sot_world.specs.HistoryEntry.{Logged}
use Rattle.sot_world.specs.Histories.{entry_of}
use Rattle.sot_trace.specs.Lines.{line_of, ticks_in, refused_in}
use Rattle.sot_trace.proofs.Putting.{piece_put}
use Rattle.sot_trace.proofs.Laying.{line_more, count_more}
use Rattle.sot_trace.proofs.text.put_entries.Goals as goal

pub loop-i-preserved : goal.loop-i-preserved
loop-i-preserved g c =
    let e : Logged = entry_of c.entry-entry.result in
    let es = c.args.history.now.entries in
    let p = c.args.p.now in
    let at = c.entry-entry.ensures in
    let ticks = count_more ticks_in es c.loop-i.i e at in
    let refused = count_more (refused_in p) es c.loop-i.i e at in
    let more = g.met.O.Out.more in
    record {
      text = λ y rest. piece_put g.O.Out.puts more _ _ _ y (line_of p e) _ _ _ c.put_entry-refused.ensures.text (line_more p es c.loop-i.i e at)
          (c.loop-i.invariant.text y) (more _ _ _ _ _ c.put_byte.ensures rest);
      ticks = omega (arith, ticks, c.ticks_in.ensures.value, c.loop-i.invariant.ticks);
      refused = omega (arith, refused, c.put_entry-refused.ensures.refused, c.loop-i.invariant.refused);
      few_ticks = omega (arith, c.ticks_in.ensures.few, c.loop-i.invariant.few_ticks);
      few_refused = omega (arith, c.put_entry-refused.ensures.few, c.loop-i.invariant.few_refused);
    }
