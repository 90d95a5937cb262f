use Rattle.std.proofs.Common.{◌≡◌, ◌-◌, ◌≤◌, length, take}
use Rattle.sot_text.specs.Place.{after, begin}
use Rattle.sot_text.specs.Reading.{next_from}
use Rattle.sot_text.proofs.lexer.next_start.Given as goal

abbrev pub invariant-loop-start : goal.invariant-loop-start
invariant-loop-start l = record {
  within : l.start.at ≤ length l.bytes;
  place : l.start.place ≡ after begin (take l.start.at l.bytes);
  same : next_from l.bytes l.start.at ≡ next_from l.bytes l.at;
  forward : l.at ≤ l.start.at;
}

abbrev pub decreases-loop-start : goal.decreases-loop-start
decreases-loop-start l = length l.bytes - l.start.at
