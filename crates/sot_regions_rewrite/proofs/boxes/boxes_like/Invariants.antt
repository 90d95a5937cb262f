use Rattle.std.proofs.Common.{◌≡◌, map, take}
use Rattle.sot_syntax_tree.specs.TreeViews.{area_view}
use Rattle.sot_regions_rewrite.specs.OtherRegions.{areas_like}
use Rattle.sot_regions_rewrite.proofs.boxes.boxes_like.Given as goal

abbrev pub invariant-loop-i : goal.invariant-loop-i
invariant-loop-i l = map area_view l.boxes.items ≡ take l.i (areas_like (map area_view l.given) l.found.boxes)
