use Rattle.std.proofs.Common.{ℕ, ◌<◌, ◌≤◌}
use Rattle.sot_box.specs.Sweep.{HoldsAt}
use Rattle.sot_box.proofs.region.Region.holder_between.Given as goal

abbrev pub invariant-loop-i : goal.invariant-loop-i
invariant-loop-i l = (k : ℕ) → l.from ≤ k → k < l.i → HoldsAt l.self.boxes k l.p → ⊥
