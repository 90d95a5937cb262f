use Rattle.std.proofs.Common.{◌≡◌, drop}
use Rattle.sot_trace_lines.specs.Entries.{behind_draft}
use Rattle.sot_trace_lines.proofs.entry.behind_draft.Given as goal

abbrev pub invariant-loop-i : goal.invariant-loop-i
invariant-loop-i l = behind_draft l.p (drop l.i l.writes) (drop l.i l.draft) l.rest ≡ behind_draft l.p l.fn.writes l.fn.draft l.fn.text
