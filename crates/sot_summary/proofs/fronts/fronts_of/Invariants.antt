use Rattle.std.proofs.Common.{◌≡◌, ℕ, ◌<◌, take, length, slice_index_or}
use Rattle.sot_board.specs.Counts.{state_count}
use Rattle.sot_summary.proofs.fronts.fronts_of.Given as goal

-- the states in front of this plant, and of each one before it
abbrev pub invariant-loop-i : goal.invariant-loop-i
invariant-loop-i l = record {
  size : length l.fronts ≡ 100;
  front : l.from ≡ state_count (take l.i l.plants);
  before : (k : ℕ) → k < l.i → slice_index_or l.fronts k 0 ≡ state_count (take k l.plants);
}
