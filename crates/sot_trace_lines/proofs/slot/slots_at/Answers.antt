use Rattle.std.proofs.Common.{sym, ◌∙◌}
use Rattle.std.proofs.lemmas.List.{drop_more}
use Rattle.std.specs.Prelude.{slice_index}
use Rattle.sot_trace_lines.proofs.KeptSlots.{slot_read}
use Rattle.sot_trace_lines.proofs.slot.slots_at.Goals as goal

pub loop-i-preserved : goal.loop-i-preserved
loop-i-preserved c =
    let l = c.loop-i in
    let slot = c.in_ok-slot.slot in
    slot_read c.args.p.now c.args.writes.now l.i (slice_index c.args.writes.now l.i) (l.draft, l.whole) (c.slot_at.new.draft, slot.whole) l.rest.now
    slot.rest.now
    (drop_more c.args.writes.now l.i 0 c.loop-i-test.true) (sym c.in_ok-slot.ensures)
    ∙ l.invariant
