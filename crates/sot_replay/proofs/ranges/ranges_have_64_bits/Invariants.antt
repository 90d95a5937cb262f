use Rattle.std.proofs.Common.{ℕ, ◌<◌}
use Rattle.sot_lists.specs.Places.{At}
use Rattle.sot_lang.specs.declared.tables.ScalarInfo.{ScalarInfo}
use Rattle.sot_trace_lines.specs.Bits.{Has64Bits}
use Rattle.sot_replay.proofs.ranges.ranges_have_64_bits.Given as goal

-- those so far have
abbrev pub invariant-loop-info : goal.invariant-loop-info
invariant-loop-info l = (k : ℕ) (info : ScalarInfo) → k < l.info-index → At l.scalars k info → Has64Bits info.lo × Has64Bits info.hi
