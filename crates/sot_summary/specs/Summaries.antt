-- The summary of a flight's history.
use Rattle.std.specs.Prelude.{List, length, sum_by}
use Rattle.sot_lang.specs.Tables.{Tables}
use Rattle.sot_world.specs.HistoryEntry.{Logged}
use Rattle.sot_flight.specs.Plans.{Plan}
use Rattle.sot_trace.specs.Lines.{ticks_in, refused_in}
use Rattle.sot_summary.specs.declared.summary.Summary.{Summary}
use Rattle.sot_summary.specs.Counted.{firings_in, outside_in, states_sum}

-- the modules and nodes of the program, the flight's horizon, and of the history: firings and
-- decisions, ticks, numbers of drafts outside their ranges (as the last line of a trace counts
-- them), ticks after which some plant is outside, and the sum of all states after each tick
abbrev pub summary_of : Tables → Plan → List Logged → Summary
summary_of p f entries = record {
  modules = length p.modules;
  nodes = length p.nodes;
  horizon = f.horizon;
  firings = sum_by firings_in entries;
  ticks = sum_by ticks_in entries;
  refused = sum_by (refused_in p) entries;
  outside = sum_by (outside_in p) entries;
  sum = states_sum entries;
}
