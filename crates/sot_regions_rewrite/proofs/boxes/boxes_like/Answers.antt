use Rattle.std.proofs.Common.{◌≡◌, List, ◌++◌, [], ◌∷◌, map, sym, subst, ap, ◌∙◌, arith}
use Rattle.std.proofs.lemmas.List.{map-append}
use Rattle.sot_lists.specs.Places.{At}
use Rattle.sot_lists.proofs.Places.{at_map}
use Rattle.sot_syntax_tree.specs.TreeViews.{area_view}
use Rattle.sot_syntax_tree.specs.Trees.{Area}
use Rattle.sot_regions_rewrite.specs.OtherRegions.{area_like, areas_like}
use Rattle.sot_regions_rewrite.proofs.Steps.{one_more, first_like}
use Rattle.sot_regions_rewrite.proofs.boxes.boxes_like.Goals as goal

pub loop-i-preserved : goal.loop-i-preserved
loop-i-preserved c =
    let given = c.args.given.now in
    let found = c.args.found.now.boxes in
    let like = area_like (area_view c.index-given-0.result) in
    let e : areas_like (map area_view given) found ≡ map like found =
    first_like given c.index-given-0.result found (omega (arith, c.if-given-eq0.false)) c.index-given-0.is
    in
    let at : At (areas_like (map area_view given) found) c.loop-i.i (like c.at.result) =
    subst (λ (xs : List Area). At xs c.loop-i.i (like c.at.result)) (sym e) (at_map like found c.loop-i.i c.at.result c.at.ensures.place)
    in
    one_more (areas_like (map area_view given) found) c.loop-i.i (like c.at.result) (map area_view c.loop-i.boxes.items)
    (map area_view c.push.new.self.items)
    at c.loop-i.invariant
    (ap (map area_view) c.in_ok-push.ensures.items ∙ map-append area_view c.loop-i.boxes.items (c.in_ok-like.like ∷ [])
    ∙ ap (λ (a : Area). map area_view c.loop-i.boxes.items ++ a ∷ []) c.in_ok-like.ensures)
