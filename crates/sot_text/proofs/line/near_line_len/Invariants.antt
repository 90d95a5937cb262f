use Rattle.std.proofs.Common.{◌≡◌, ◌+◌, drop}
use Rattle.sot_text.specs.LineEnds.{line_len}
use Rattle.sot_text.proofs.line.near_line_len.Given as goal

abbrev pub invariant-loop-i : goal.invariant-loop-i
invariant-loop-i l = line_len l.bytes ≡ l.i + line_len (drop l.i l.bytes)
