use Rattle.std.proofs.Common.{◌≡◌, ◌*◌, ◌≤◌, length}
use Rattle.std.specs.Prelude.{sum_by}
use Rattle.sot_trace.specs.Lines.{ticks_in, refused_in}
use Rattle.sot_replay.specs.Follows.{HasFollowed}
use Rattle.sot_replay.proofs.follow.follow.Given as goal

-- the flight has gone on by the lines so far, and what they add is counted
abbrev pub invariant-lines : goal.invariant-lines
invariant-lines l = record {
  followed : HasFollowed l.fn.board l.board l.fn.lines.to_come l.fn.lines.number l.lines.to_come l.lines.number;
  ticks : l.counts.ticks ≡ sum_by ticks_in l.board.entries;
  refused : l.counts.refused ≡ sum_by (refused_in l.board.accepted.program) l.board.entries;
  few_ticks : l.counts.ticks ≤ 256 * l.lines.number;
  few_refused : l.counts.refused ≤ 256 * l.lines.number;
}

-- each line that is lent is one fewer
abbrev pub decreases-lines : goal.decreases-lines
decreases-lines l = length l.lines.to_come
