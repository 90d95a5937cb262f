use Rattle.std.proofs.Common.{ℕ, ◌≡◌, ◌<◌, ◌≤◌, ◌⊎◌, ◌↔◌, length}
use Rattle.std.specs.Prelude.{slice_index_or}
use Rattle.sot_recover.specs.Sets.{IsSet}
use Rattle.sot_recover.specs.Thinned.{count}
use Rattle.sot_recover.proofs.growing.enter.Given as goal

-- the first fresh places have entered
abbrev pub invariant-loop-n : goal.invariant-loop-n
invariant-loop-n l = record {
  sizes : (length l.set ≡ length l.initial.set) × (length l.ranks ≡ length l.initial.set);
  set : (i : ℕ) → IsSet l.set i ↔ (IsSet l.initial.set i ⊎ ((q : ℕ) × (q < l.n) × (slice_index_or l.fresh q 0 ≡ i)));
  entered : (q : ℕ) → q < l.n → slice_index_or l.ranks (slice_index_or l.fresh q 0) 0 ≡ l.rank;
  others : (i : ℕ) → ((q : ℕ) → q < l.n → slice_index_or l.fresh q 0 ≡ i → ⊥) → slice_index_or l.ranks i 0 ≡ slice_index_or l.initial.ranks i 0;
  grown : count l.initial.set ≤ count l.set;
  some : 0 < l.n → count l.initial.set < count l.set;
}
