use Rattle.std.proofs.Common.{◌≡◌, drop, length}
use Rattle.sot_world.specs.Events.{noise_count}
use Rattle.sot_board.specs.Counts.{state_count}
use Rattle.sot_trace.specs.Moves.{moves_text}
use Rattle.sot_trace.proofs.moves.put_moves.Given as goal

-- what puts the rest puts the whole
abbrev pub invariant-loop-plant : goal.invariant-loop-plant
invariant-loop-plant g l = record {
  noise : length l.noise_left ≡ noise_count (drop l.plant-index l.plants);
  states : length l.states_left ≡ state_count (drop l.plant-index l.plants);
  text : (y : _) → g.O.Out.puts l.out y (moves_text (drop l.plant-index l.plants) l.noise_left l.states_left)
      → g.O.Out.puts l.initial.out y (moves_text l.plants l.noise l.states);
}
