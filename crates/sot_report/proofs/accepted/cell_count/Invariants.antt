-- What the loop of `cell_count` keeps.
use Rattle.std.proofs.Common.{◌≡◌, ◌+◌, drop}
use Rattle.sot_report.specs.AcceptedTexts.{cell_count}
use Rattle.sot_report.proofs.accepted.cell_count.Given as goal

-- what is counted, and then what is left
abbrev pub invariant-loop-entry : goal.invariant-loop-entry
invariant-loop-entry l = l.count + cell_count (drop l.entry-index l.fn.entries) ≡ cell_count l.fn.entries
