use Rattle.std.proofs.Common.{◌≡◌, length, take}
use Rattle.sot_code.proofs.gather.put_seen.Given as goal

abbrev pub invariant-loop-i : goal.invariant-loop-i
invariant-loop-i b l = record {
  size : length l.numbers ≡ length l.initial.numbers;
  front : take l.i l.numbers ≡ take l.i (b.V.Seen.numbers l.seen);
}
