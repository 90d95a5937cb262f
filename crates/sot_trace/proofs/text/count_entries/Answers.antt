use Rattle.std.proofs.Common.{arith}
use Rattle.sot_world.specs.HistoryEntry.{Logged}
use Rattle.sot_world.specs.Histories.{entry_of}
use Rattle.sot_trace.specs.Lines.{ticks_in, refused_in}
use Rattle.sot_trace.proofs.Laying.{count_more}
use Rattle.sot_trace.proofs.text.count_entries.Goals as goal

pub loop-i-preserved : goal.loop-i-preserved
loop-i-preserved c =
    let e : Logged = entry_of c.entry-entry.result in
    let es = c.args.history.now.entries in
    let at = c.entry-entry.ensures in
    let ticks = count_more ticks_in es c.loop-i.i e at in
    let refused = count_more (refused_in c.args.p.now) es c.loop-i.i e at in
    record {
      ticks = omega (arith, ticks, c.ticks_in.ensures.value, c.loop-i.invariant.ticks);
      refused = omega (arith, refused, c.refused_in.ensures.value, c.loop-i.invariant.refused);
      few_ticks = omega (arith, c.ticks_in.ensures.few, c.loop-i.invariant.few_ticks);
      few_refused = omega (arith, c.refused_in.ensures.few, c.loop-i.invariant.few_refused);
    }
