use Rattle.std.proofs.Common.{ℕ, ◌≡◌, ◌<◌, length}
use Rattle.std.specs.Prelude.{◌≤ℤ◌}
use Rattle.sot_lists.specs.Places.{At}
use Rattle.sot_box.specs.Sides.{Side}
use Rattle.sot_recover.proofs.hull.widened.Given as goal

abbrev pub invariant-loop-i : goal.invariant-loop-i
invariant-loop-i l = record {
  four : length l.sides ≡ 4;
  first : (k : ℕ) (r q : Side) → k < l.i → At l.sides k r → At l.a k q → (r.lo ≤ℤ q.lo) × (q.hi ≤ℤ r.hi);
  second : (k : ℕ) (r q : Side) → k < l.i → At l.sides k r → At l.b k q → (r.lo ≤ℤ q.lo) × (q.hi ≤ℤ r.hi);
}
