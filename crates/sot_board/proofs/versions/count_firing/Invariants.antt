use Rattle.std.proofs.Common.{◌≡◌, ◌≤◌, ◌+◌, ℕ, ◌<◌, suc, drop, length}
use Rattle.std.specs.Prelude.{slice_index_or, if◌then◌else◌}
use Rattle.sot_board.specs.Versions.{publishes_on}
use Rattle.sot_board.proofs.versions.count_firing.Given as goal

-- what is left to count gives the whole
abbrev pub invariant-loop-i : goal.invariant-loop-i
invariant-loop-i l = record {
  size : length l.versions ≡ length l.initial.versions;
  room : (k : ℕ) → slice_index_or l.versions k 0 ≤ slice_index_or l.initial.versions k 0 + l.i;
  counted : (k : ℕ) → k < length l.initial.versions →
      (if publishes_on l.p k (drop l.i l.writes) (drop l.i l.draft) then suc (slice_index_or l.versions k 0) else slice_index_or l.versions k 0)
      ≡ (if publishes_on l.p k l.writes l.draft then suc (slice_index_or l.initial.versions k 0) else slice_index_or l.initial.versions k 0);
}
