use Rattle.std.proofs.Common.{ℕ, ◌≡◌, ◌<◌, length, List, [], ◌∷◌}
use Rattle.sot_lists.specs.Places.{At}
use Rattle.sot_box.specs.Sides.{Side}
use Rattle.sot_recover.specs.Meeting.{IsAround}
use Rattle.sot_recover.proofs.hull.hull_of.Given as goal

abbrev pub invariant-loop-i : goal.invariant-loop-i
invariant-loop-i l = record {
  around : (j : ℕ) (b : List Side) → j < l.i → At l.boxes j b → (length l.hull ≡ length b) × IsAround l.hull b;
  single : (b : List Side) → l.boxes ≡ b ∷ [] → l.hull ≡ b;
  some : 0 < l.i;
}
