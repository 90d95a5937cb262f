use Rattle.std.proofs.Common.{ℕ, ℤ, ◌<◌, Some}
use Rattle.sot_lists.specs.Places.{At}
use Rattle.sot_trace_lines.specs.Bits.{Has64Bits}
use Rattle.sot_replay.proofs.ranges.draft_has_64_bits.Given as goal

-- those so far have
abbrev pub invariant-loop-i : goal.invariant-loop-i
invariant-loop-i l = (k : ℕ) (z : ℤ) → k < l.i → At l.draft k (Some z) → Has64Bits z
