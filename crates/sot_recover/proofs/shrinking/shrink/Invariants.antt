use Rattle.std.proofs.Common.{ℕ, Bool, List, ◌≡◌, length}
use Rattle.sot_recover.specs.Sets.{IsSet, with_places, KeepIn}
use Rattle.sot_recover.specs.Thinned.{weight}
use Rattle.sot_recover.proofs.shrinking.shrink.Given as goal

abbrev pub invariant-loop-set : goal.invariant-loop-set
invariant-loop-set g l = record {
  size : length l.set ≡ length l.initial.set;
  marked_size : length l.marked.items ≡ length l.set;
  marks : (k : ℕ) → IsSet l.marked.items k → ⊥;
  fewer : (k : ℕ) → IsSet l.set k → IsSet l.initial.set k;
  kept : (all : List Bool) → KeepIn (g.L.Landing.lands l.places) all l.initial.set → KeepIn (g.L.Landing.lands l.places) all l.set;
  land : (k : ℕ) → IsSet l.set k → g.L.Landing.lands l.places (with_places l.set l.leaving.items) k;
}

abbrev pub decreases-loop-set : goal.decreases-loop-set
decreases-loop-set g l = weight l.set l.leaving.items
