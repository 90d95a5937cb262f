use Rattle.std.proofs.Common.{ℕ, ◌≡◌, ◌<◌, length}
use Rattle.std.specs.Prelude.{slice_index_or}
use Rattle.sot_recover.specs.Sets.{IsSet, with_places}
use Rattle.sot_recover.specs.Thinned.{IsThinned}
use Rattle.sot_recover.proofs.shrinking.test_all.Given as goal

-- the places that were tested land in what is there
abbrev pub invariant-loop-n : goal.invariant-loop-n
invariant-loop-n g l = record {
  size : length l.set ≡ length l.initial.set;
  thinned : IsThinned (g.L.Landing.lands l.places) l.initial.set l.initial.leaving.items l.set l.leaving.items;
  done : (q : ℕ) → q < l.n → IsSet l.set (slice_index_or l.found q 0)
      → g.L.Landing.lands l.places (with_places l.set l.leaving.items) (slice_index_or l.found q 0);
}
