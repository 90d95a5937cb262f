use Rattle.std.proofs.Common.{ℕ, ◌≡◌, ◌<◌, ◌⊎◌, ◌↔◌, List}
use Rattle.std.specs.Prelude.{ℤ, slice_index_or}
use Rattle.sot_box.specs.Regions.{IsInRegion}
use Rattle.sot_recover.specs.Near.{IsInChosen}
use Rattle.sot_recover.proofs.near.push_all.Given as goal

abbrev pub invariant-loop-n : goal.invariant-loop-n
invariant-loop-n l = record {
  width : l.near.width ≡ l.initial.near.width;
  points : (s : List ℤ) → IsInRegion l.near.boxes s ↔ (IsInRegion l.initial.near.boxes s
      ⊎ ((q : ℕ) × (q < l.n) × IsInChosen l.cells l.set (slice_index_or l.found q 0) s));
}
