use Rattle.std.proofs.Common.{◌≡◌, length, map, take}
use Rattle.sot_board.specs.ReadCounts.{count_of}
use Rattle.sot_board.proofs.reads.read_counts.Given as goal

abbrev pub invariant-loop-i : goal.invariant-loop-i
invariant-loop-i l = record {
  size : length l.versions ≡ length l.initial.versions;
  front : take l.i l.versions ≡ map (count_of l.p l.counts) (take l.i l.reads);
}
