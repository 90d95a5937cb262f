use Rattle.std.proofs.Common.{◌≡◌, true, None, drop}
use Rattle.std.specs.Prelude.{replicate}
use Rattle.sot_trace_lines.specs.Readers.{slots_at}
use Rattle.sot_trace_lines.specs.Kept.{kept_slots}
use Rattle.sot_trace_lines.proofs.slot.slots_at.Given as goal

abbrev pub invariant-loop-i : goal.invariant-loop-i
invariant-loop-i l =
    kept_slots l.i (l.draft, l.whole) (slots_at l.p (drop l.i l.writes) l.rest) ≡ kept_slots 0 (replicate 8 None, true) (slots_at l.p l.writes l.text)
