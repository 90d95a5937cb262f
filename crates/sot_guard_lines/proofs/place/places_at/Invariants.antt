use Rattle.std.proofs.Common.{◌≡◌, ◌+◌, ◌≤◌, true, drop}
use Rattle.std.specs.Prelude.{vec_len, vec_capacity}
use Rattle.sot_board.specs.Counts.{state_count}
use Rattle.sot_trace_lines.specs.Kept.{kept_row}
use Rattle.sot_guard_lines.specs.Readers.{places_at}
use Rattle.sot_guard_lines.proofs.place.places_at.Given as goal

abbrev pub invariant-loop-plant : goal.invariant-loop-plant
invariant-loop-plant l = record {
  read :
      kept_row (l.numbers.items, l.whole) (places_at (drop l.plant-index l.plants) l.rest) ≡ kept_row (l.fn.numbers.items, true) (places_at l.plants l.text);
  len : vec_len l.numbers + state_count (drop l.plant-index l.plants) ≤ vec_len l.fn.numbers + state_count l.plants;
  capacity : vec_capacity l.fn.numbers ≤ vec_capacity l.numbers;
}
