use Rattle.std.proofs.Common.{◌≡◌, map, take, zip}
use Rattle.sot_regions_rewrite.specs.OtherRegions.{bounds_like}
use Rattle.sot_regions_rewrite.proofs.boxes.box_like.Given as goal

abbrev pub invariant-loop-i : goal.invariant-loop-i
invariant-loop-i l = l.sides.items ≡ take l.i (map (λ x. bounds_like x.0 x.1) (zip l.given.sides.items l.found))
