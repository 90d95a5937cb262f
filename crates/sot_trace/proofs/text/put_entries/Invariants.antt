use Rattle.std.proofs.Common.{◌≡◌, ◌+◌, ◌*◌, ◌≤◌, drop, map}
use Rattle.std.specs.Prelude.{sum_by}
use Rattle.sot_trace.specs.Lines.{line_of, ticks_in, refused_in}
use Rattle.sot_trace.specs.Traces.{text_of}
use Rattle.sot_trace.proofs.text.put_entries.Given as goal

-- what puts the rest puts the whole; what is counted, and then what is left
abbrev pub invariant-loop-i : goal.invariant-loop-i
invariant-loop-i g l = record {
  text : (y : _) → g.O.Out.puts l.out y (text_of (map (line_of l.p) (drop l.i l.history.entries)))
      → g.O.Out.puts l.initial.out y (text_of (map (line_of l.p) l.history.entries));
  ticks : l.counts.ticks + sum_by ticks_in (drop l.i l.history.entries) ≡ sum_by ticks_in l.history.entries;
  refused : l.counts.refused + sum_by (refused_in l.p) (drop l.i l.history.entries) ≡ sum_by (refused_in l.p) l.history.entries;
  few_ticks : l.counts.ticks ≤ l.i;
  few_refused : l.counts.refused ≤ 8 * l.i;
}
