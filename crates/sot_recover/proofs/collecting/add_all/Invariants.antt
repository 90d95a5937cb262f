use Rattle.std.proofs.Common.{ℕ, ◌≡◌, ◌<◌, length}
use Rattle.std.specs.Prelude.{slice_index_or}
use Rattle.sot_lists.specs.Places.{Has}
use Rattle.sot_recover.specs.Sets.{IsSet}
use Rattle.sot_recover.proofs.collecting.add_all.Given as goal

abbrev pub invariant-loop-n : goal.invariant-loop-n
invariant-loop-n l = record {
  size : length l.marked ≡ length l.initial.marked;
  more : (k : ℕ) → Has l.initial.near.items k → Has l.near.items k;
  here : (q : ℕ) → q < l.n → slice_index_or l.found q 0 < length l.initial.marked → Has l.near.items (slice_index_or l.found q 0);
  marks : (k : ℕ) → IsSet l.marked k → Has l.near.items k;
}
