use Rattle.std.proofs.Common.{◌≡◌, ◌+◌, ◌++◌, length, take}
use Rattle.sot_box.specs.Boxes.{highs}
use Rattle.sot_lang.specs.Ranges.{bounds}
use Rattle.sot_flight.proofs.noise.put_highs.Given as goal

abbrev pub invariant-loop-i : goal.invariant-loop-i
invariant-loop-i l = record {
  size : length l.numbers ≡ length l.initial.numbers;
  front : take (l.first + l.i) l.numbers ≡ take l.first l.initial.numbers ++ take l.i (highs (bounds l.plant));
}
