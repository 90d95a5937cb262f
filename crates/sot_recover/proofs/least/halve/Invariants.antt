use Rattle.std.proofs.Common.{ℕ, ◌<◌, ◌≤◌, ◌-◌}
use Rattle.sot_box.specs.Regions.{CoversAll}
use Rattle.sot_recover.specs.Chosen.{chosen}
use Rattle.sot_recover.proofs.least.halve.Given as goal

abbrev pub invariant-loop-bounds : goal.invariant-loop-bounds
invariant-loop-bounds l = record {
  order : l.bounds.low ≤ l.bounds.high;
  inside : l.bounds.high ≤ l.top;
  covers : CoversAll l.safe.boxes (chosen l.cells l.ranks l.bounds.high);
  below : (k : ℕ) → k < l.bounds.low → CoversAll l.safe.boxes (chosen l.cells l.ranks k) → ⊥;
}

abbrev pub decreases-loop-bounds : goal.decreases-loop-bounds
decreases-loop-bounds l = l.bounds.high - l.bounds.low
