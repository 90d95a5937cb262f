use Rattle.std.proofs.Common.{◌≡◌, ◌+◌, ◌++◌, take}
use Rattle.sot_replay.specs.Replays.{opening_lines}
use Rattle.sot_replay.proofs.opening.read_opening.Given as goal

-- the lines so far are those that have to stand there
abbrev pub invariant-places : goal.invariant-places
invariant-places l = record {
  is : l.fn.lines.to_come ≡ take l.place (opening_lines l.p l.flight) ++ l.lines.to_come;
  number : l.lines.number ≡ l.fn.lines.number + l.place;
}
