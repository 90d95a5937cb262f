use Rattle.std.proofs.Common.{◌≡◌, ◌≤◌, ◌+◌, ◌*◌, ◌++◌, [], map, take, length, slice_index_or}
use Rattle.sot_box.specs.Boxes.{point_box}
use Rattle.sot_lang.specs.Ticks.{joined}
use Rattle.sot_guard.proofs.outside.put_seen.Given as goal

abbrev pub invariant-loop-i : goal.invariant-loop-i
invariant-loop-i l = record {
  few : length l.sides ≤ length l.initial.sides + 4 * l.i;
  sides : l.sides ≡ l.initial.sides ++ point_box (joined (map (λ k. slice_index_or l.points k []) (take l.i l.sees)));
}
