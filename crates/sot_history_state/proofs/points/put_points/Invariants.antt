use Rattle.std.proofs.Common.{◌≡◌, ℕ, ◌<◌, [], drop, length, slice_index_or}
use Rattle.sot_board.specs.Counts.{state_count}
use Rattle.sot_summary.specs.Outside.{points_in}
use Rattle.sot_history_state.proofs.points.put_points.Given as goal

-- the plants before this one have their points, and the rest of the states is for those from here on
abbrev pub invariant-loop-k : goal.invariant-loop-k
invariant-loop-k l = record {
  size : length l.points ≡ length l.plants;
  count : length l.rest ≡ state_count (drop l.k l.plants);
  parts : drop l.k (points_in l.plants l.states) ≡ points_in (drop l.k l.plants) l.rest;
  done : (j : ℕ) → j < l.k → slice_index_or l.points j [] ≡ slice_index_or (points_in l.plants l.states) j [];
}
