use Rattle.std.proofs.Common.{ℕ, ◌≡◌, ◌<◌, length, false}
use Rattle.std.specs.Prelude.{slice_index_or, MatchBool}
use Rattle.sot_recover.proofs.growing.put_first_ranks.Given as goal

abbrev pub invariant-loop-i : goal.invariant-loop-i
invariant-loop-i l =
    (length l.ranks ≡ length l.set) × ((k : ℕ) → k < l.i → MatchBool (slice_index_or l.set k false) (slice_index_or l.ranks k 0 ≡ 0)
    (slice_index_or l.ranks k 0 ≡ 4294967295))
