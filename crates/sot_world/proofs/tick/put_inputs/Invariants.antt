use Rattle.std.proofs.Common.{◌≡◌, ◌+◌, ◌++◌, map, take, pos, length, slice_index_or}
use Rattle.sot_world.proofs.tick.put_inputs.Given as goal

abbrev pub invariant-loop-i : goal.invariant-loop-i
invariant-loop-i l = record {
  size : length l.numbers ≡ length l.initial.numbers;
  front : take (l.from + l.i) l.numbers ≡ take l.from l.initial.numbers ++ map (λ k. slice_index_or l.scalars k (pos 0)) (take l.i l.inputs);
}
