use Rattle.std.proofs.Common.{◌≡◌, length}
use Rattle.std.specs.Prelude.{All}
use Rattle.sot_invariant_atoms.proofs.boxes.boxes_along.Given as goal

abbrev pub invariant-loop-tick : goal.invariant-loop-tick
invariant-loop-tick l = record {
  width : length l.walk.area ≡ length l.fn.walk.area;
  all : All (λ b. length b ≡ length l.fn.walk.area) l.boxes.items;
}
