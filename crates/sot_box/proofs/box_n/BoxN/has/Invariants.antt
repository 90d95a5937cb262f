use Rattle.std.proofs.Common.{ℕ, ◌<◌, ◌≤ℤ◌}
use Rattle.sot_box.specs.Boxes.{lows, highs}
use Rattle.sot_box.specs.Sweep.{coordinate}
use Rattle.sot_box.proofs.box_n.BoxN.has.Given as goal

abbrev pub invariant-loop-i : goal.invariant-loop-i
invariant-loop-i l = record {
  low : (k : ℕ) → k < l.i → coordinate (lows l.self) k ≤ℤ coordinate l.p k;
  high : (k : ℕ) → k < l.i → coordinate l.p k ≤ℤ coordinate (highs l.self) k;
}
