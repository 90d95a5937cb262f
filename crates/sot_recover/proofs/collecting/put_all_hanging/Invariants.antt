use Rattle.std.proofs.Common.{ℕ, ◌≡◌, ◌<◌, length}
use Rattle.std.specs.Prelude.{slice_index_or}
use Rattle.sot_lists.specs.Places.{Has}
use Rattle.sot_recover.specs.Sets.{IsSet}
use Rattle.sot_recover.proofs.collecting.put_all_hanging.Given as goal

abbrev pub invariant-loop-n : goal.invariant-loop-n
invariant-loop-n g l = record {
  size : length l.marked ≡ length l.initial.marked;
  done : (q i : ℕ) → q < l.n → g.L.Landing.hangs l.places (slice_index_or l.fresh q 0) i → i < length l.initial.marked → Has l.near.items i;
  marks : (k : ℕ) → IsSet l.marked k → Has l.near.items k;
}
