use Rattle.std.proofs.Common.{◌≡◌, ◌+◌, suc, length}
use Rattle.sot_text.specs.LineEnds.{lines}
use Rattle.sot_guard_program.proofs.accepting.line_behind.Given as goal

-- the lines so far, and those that are to come
abbrev pub invariant-loop-line : goal.invariant-loop-line
invariant-loop-line l = l.lines.number + length l.lines.to_come ≡ suc (length (lines l.text))

-- each line that is lent is one fewer
abbrev pub decreases-loop-line : goal.decreases-loop-line
decreases-loop-line l = length l.lines.to_come
