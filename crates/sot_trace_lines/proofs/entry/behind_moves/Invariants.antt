use Rattle.std.proofs.Common.{◌≡◌, drop, length}
use Rattle.sot_world.specs.Events.{noise_count}
use Rattle.sot_board.specs.Counts.{state_count}
use Rattle.sot_trace_lines.specs.Entries.{behind_moves}
use Rattle.sot_trace_lines.proofs.entry.behind_moves.Given as goal

-- what is left
abbrev pub invariant-loop-plant : goal.invariant-loop-plant
invariant-loop-plant l = record {
  noise : length l.noise_left ≡ noise_count (drop l.plant-index l.plants);
  states : length l.states_left ≡ state_count (drop l.plant-index l.plants);
  text : behind_moves (drop l.plant-index l.plants) l.noise_left l.states_left l.rest ≡ behind_moves l.fn.plants l.fn.noise l.fn.states l.fn.text;
}
