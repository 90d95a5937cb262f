use Rattle.std.proofs.Common.{◌≡◌, length, map, take}
use Rattle.sot_lang.specs.Readings.{number_at}
use Rattle.sot_board.proofs.reads.read_numbers.Given as goal

abbrev pub invariant-loop-i : goal.invariant-loop-i
invariant-loop-i l = record {
  size : length l.numbers ≡ length l.initial.numbers;
  front : take l.i l.numbers ≡ map (number_at l.world.at.scalars l.world.at.points) (take l.i l.reads);
}
