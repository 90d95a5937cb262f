use Rattle.std.proofs.Common.{◌≡◌, ◌+◌, ◌≤◌, drop}
use Rattle.sot_trace.specs.Drafts.{draft_text, draft_refused}
use Rattle.sot_trace.proofs.draft.put_draft.Given as goal

-- what puts the rest puts the whole; what is counted, and then what is left
abbrev pub invariant-loop-i : goal.invariant-loop-i
invariant-loop-i g l = record {
  text : (y : _) → g.O.Out.puts l.out y (draft_text l.p (drop l.i l.writes) (drop l.i l.draft))
      → g.O.Out.puts l.initial.out y (draft_text l.p l.writes l.draft);
  refused : l.refused + draft_refused l.p (drop l.i l.writes) (drop l.i l.draft) ≡ draft_refused l.p l.writes l.draft;
  few : l.refused ≤ l.i;
}
