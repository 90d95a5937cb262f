use Rattle.sot_replay.proofs.LineHistory.{line_trace}
use Rattle.sot_replay.proofs.LineTests.{other_start_lines, other_decisions, other_drafts, other_ticks, other_later_lines, meets_the_laws}
use Rattle.sot_replay.proofs.facts.lines_of_the_vehicle_are_as_stated.Goals as goal

pub returns : goal.returns
returns c =
    record {
      trace = line_trace;
      starts = other_start_lines;
      decisions = other_decisions;
      drafts = other_drafts;
      ticks = other_ticks;
      later = other_later_lines;
      laws = meets_the_laws;
    }
