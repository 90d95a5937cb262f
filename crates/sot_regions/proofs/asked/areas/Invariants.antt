use Rattle.std.proofs.Common.{◌≡◌, length}
use Rattle.sot_regions.specs.Shapes.{AreWide}
use Rattle.sot_regions.proofs.asked.areas.Given as goal

abbrev pub invariant-loop-block : goal.invariant-loop-block
invariant-loop-block l = record {
  count : length l.boxes.items ≡ l.block-index;
  wide : AreWide l.grid.width l.boxes.items;
}
