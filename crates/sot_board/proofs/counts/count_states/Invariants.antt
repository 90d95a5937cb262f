use Rattle.std.proofs.Common.{◌≡◌, ◌≤◌, ◌+◌, ◌*◌, drop}
use Rattle.sot_board.specs.Counts.{state_count}
use Rattle.sot_board.proofs.counts.count_states.Given as goal

abbrev pub invariant-loop-plant : goal.invariant-loop-plant
invariant-loop-plant l = record {
  few : l.count ≤ 4 * l.plant-index;
  rest : l.count + state_count (drop l.plant-index l.plants) ≡ state_count l.plants;
}
