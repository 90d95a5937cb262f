use Rattle.std.proofs.Common.{◌≡◌, ◌≤◌, ◌+◌, ◌*◌, ◌++◌, [], map, take, length, slice_index_or}
use Rattle.sot_lang.specs.Ticks.{joined}
use Rattle.sot_world.proofs.tick.put_seen.Given as goal

abbrev pub invariant-loop-i : goal.invariant-loop-i
invariant-loop-i l = record {
  few : l.count ≤ l.from + 4 * l.i;
  size : length l.numbers ≡ length l.initial.numbers;
  front : take l.count l.numbers ≡ take l.from l.initial.numbers ++ joined (map (λ k. slice_index_or l.points k []) (take l.i l.sees));
}
