use Rattle.std.proofs.Common.{◌≡◌, ◌+◌, ◌++◌, length, take}
use Rattle.sot_lang.specs.Ranges.{bounds}
use Rattle.sot_random_words.specs.Words.{words_from}
use Rattle.sot_flight.specs.Draws.{drawn_from}
use Rattle.sot_flight.proofs.noise.put_drawn.Given as goal

abbrev pub invariant-loop-i : goal.invariant-loop-i
invariant-loop-i l = record {
  words : l.words ≡ words_from l.seed l.stream (l.given + l.i);
  size : length l.numbers ≡ length l.initial.numbers;
  front : take (l.first + l.i) l.numbers ≡ take l.first l.initial.numbers ++ take l.i (drawn_from l.spread l.seed l.stream l.given (bounds l.plant));
}
