use Rattle.std.proofs.Common.{ℕ, ◌<◌, ℤ, List}
use Rattle.sot_lists.specs.Places.{At}
use Rattle.sot_box.specs.Sides.{Side}
use Rattle.sot_box.specs.Boxes.{IsWithin}
use Rattle.sot_invariant_atoms.proofs.inside.meets.Given as goal

abbrev pub invariant-loop-i : goal.invariant-loop-i
invariant-loop-i l = (j : ℕ) (b : List Side) → j < l.i → At l.region.boxes j b → (s : List ℤ) → IsWithin b s → IsWithin l.area s → ⊥
