use Rattle.std.proofs.Common.{◌≡◌, ◌+◌, ◌*◌, ◌^◌, ◌≤◌, pos, ◌+ℤ◌, ◌≤ℤ◌, drop}
use Rattle.std.specs.Prelude.{sum_by}
use Rattle.sot_trace.specs.Lines.{ticks_in, refused_in}
use Rattle.sot_summary.specs.Counted.{firings_in, outside_in, states_sum}
use Rattle.sot_summary.proofs.count.count_entries.Given as goal

-- what is counted, and then what is left; no sum is wider than its ticks let it be
abbrev pub invariant-loop-i : goal.invariant-loop-i
invariant-loop-i l = record {
  firings : l.counts.firings + sum_by firings_in (drop l.i l.history.entries) ≡ sum_by firings_in l.history.entries;
  ticks : l.counts.ticks + sum_by ticks_in (drop l.i l.history.entries) ≡ sum_by ticks_in l.history.entries;
  refused : l.counts.refused + sum_by (refused_in l.p) (drop l.i l.history.entries) ≡ sum_by (refused_in l.p) l.history.entries;
  outside : l.counts.outside + sum_by (outside_in l.p) (drop l.i l.history.entries) ≡ sum_by (outside_in l.p) l.history.entries;
  sum : l.counts.sum +ℤ states_sum (drop l.i l.history.entries) ≡ states_sum l.history.entries;
  few_firings : l.counts.firings ≤ l.i;
  few_ticks : l.counts.ticks ≤ l.i;
  few_refused : l.counts.refused ≤ 8 * l.i;
  few_outside : l.counts.outside ≤ l.i;
  low : pos 0 ≤ℤ (l.counts.sum +ℤ pos (2 ^ 72 * l.counts.ticks));
  high : l.counts.sum ≤ℤ pos (2 ^ 72 * l.counts.ticks);
}
