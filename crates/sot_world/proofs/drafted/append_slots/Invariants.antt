use Rattle.std.proofs.Common.{◌≡◌, ◌+◌, ◌≤◌, ◌++◌, ℤ, List, length, take}
use Rattle.std.specs.Prelude.{vec_len, vec_capacity}
use Rattle.sot_world.specs.HistoryRecords.{slots_filled, count_there}
use Rattle.sot_world.proofs.drafted.append_slots.Given as goal

abbrev pub invariant-loop-i : goal.invariant-loop-i
invariant-loop-i l = record {
  size : length l.there ≡ 8;
  len : vec_len l.numbers ≤ vec_len l.initial.numbers + l.i;
  capacity : vec_capacity l.initial.numbers ≤ vec_capacity l.numbers;
  kept : (more : List ℤ) × (l.numbers.items ≡ l.initial.numbers.items ++ more) × (count_there (take l.i l.there) ≡ length more)
      × (slots_filled (take l.i l.there) more ≡ take l.i l.draft);
}
