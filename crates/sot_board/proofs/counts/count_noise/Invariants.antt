use Rattle.std.proofs.Common.{◌≡◌, ◌≤◌, ◌+◌, ◌*◌, drop}
use Rattle.sot_world.specs.Events.{noise_count}
use Rattle.sot_board.proofs.counts.count_noise.Given as goal

abbrev pub invariant-loop-plant : goal.invariant-loop-plant
invariant-loop-plant l = record {
  few : l.count ≤ 4 * l.plant-index;
  rest : l.count + noise_count (drop l.plant-index l.plants) ≡ noise_count l.plants;
}
