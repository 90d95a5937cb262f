use Rattle.std.proofs.Common.{ℕ, ◌<◌, List}
use Rattle.sot_lists.specs.Places.{At}
use Rattle.sot_box.specs.Sides.{Side}
use Rattle.sot_box.specs.Regions.{Covers}
use Rattle.sot_recover.proofs.near.covers_each.Given as goal

abbrev pub invariant-loop-j : goal.invariant-loop-j
invariant-loop-j l = (k : ℕ) (b : List Side) → k < l.j → At l.boxes k b → Covers l.region.boxes b
