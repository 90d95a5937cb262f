use Rattle.std.proofs.Common.{◌≡◌, length, take}
use Rattle.sot_lang.specs.Ticks.{joined}
use Rattle.sot_board.proofs.states.put_states.Given as goal

abbrev pub invariant-loop-k : goal.invariant-loop-k
invariant-loop-k l = record {
  size : length l.states ≡ length l.initial.states;
  count : l.count ≡ length (joined (take l.k l.world.at.points));
  front : take l.count l.states ≡ joined (take l.k l.world.at.points);
}
