-- The loop of `region`: the boxes so far, each of the region's width.
use Rattle.std.proofs.Common.{◌≡◌, map, take}
use Rattle.sot_syntax_tree.specs.TreeViews.{area_view}
use Rattle.sot_typing.specs.Resolved.{side_of}
use Rattle.sot_typing.proofs.tables.region.region.Given as goal

abbrev pub invariant-loop-b : goal.invariant-loop-b
invariant-loop-b l = record {
  width : l.region.width ≡ l.width;
  boxes : l.region.boxes ≡ map (λ a. map side_of a.sides) (map area_view (take l.b-index l.boxes));
}
