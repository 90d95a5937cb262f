use Rattle.std.proofs.Common.{ℕ, ◌≡◌, ◌<◌, length}
use Rattle.std.specs.Prelude.{slice_index_or}
use Rattle.sot_recover.specs.Sets.{IsSet}
use Rattle.sot_recover.proofs.collecting.unmark.Given as goal

abbrev pub invariant-loop-n : goal.invariant-loop-n
invariant-loop-n l = record {
  size : length l.marked ≡ length l.initial.marked;
  fewer : (k : ℕ) → IsSet l.marked k → IsSet l.initial.marked k;
  gone : (q : ℕ) → q < l.n → IsSet l.marked (slice_index_or l.near q 0) → ⊥;
}
