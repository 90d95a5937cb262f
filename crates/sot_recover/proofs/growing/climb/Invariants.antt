use Rattle.std.proofs.Common.{ℕ, suc, ◌-◌, ◌+◌, ◌⊎◌, ◌≡◌, ◌<◌, ◌≤◌, length}
use Rattle.std.specs.Prelude.{MatchBool, if◌then◌else◌, slice_index_or}
use Rattle.sot_recover.specs.Sets.{IsSet}
use Rattle.sot_recover.specs.Thinned.{count}
use Rattle.sot_recover.proofs.Levels.{Level}
use Rattle.sot_recover.proofs.growing.climb.Given as goal

abbrev pub invariant-loop-more : goal.invariant-loop-more
invariant-loop-more g l = record {
  sizes : (length l.set ≡ length l.initial.set) × (length l.ranks ≡ length l.initial.set) × (length l.marked ≡ length l.initial.set);
  marks : (k : ℕ) → IsSet l.marked k → ⊥;
  level : Level (g.L.Landing.lands l.places) l.initial.set l.set l.near.items l.ranks l.rank;
  rank_low : l.rank ≤ length l.set + 1;
  low : (i : ℕ) → i < length l.ranks → (slice_index_or l.ranks i 0 ≤ count l.set) ⊎ (slice_index_or l.ranks i 0 ≡ 4294967295);
  going : MatchBool l.more (l.rank ≤ count l.set) ((i : ℕ) → i < length l.ranks → g.L.Landing.lands l.places l.set i → IsSet l.set i);
}

abbrev pub decreases-loop-more : goal.decreases-loop-more
decreases-loop-more g l = if l.more then suc (length l.set - count l.set) else 0
