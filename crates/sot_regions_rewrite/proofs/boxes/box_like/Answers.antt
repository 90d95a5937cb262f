use Rattle.std.proofs.Common.{◌≡◌, List, ◌++◌, [], ◌∷◌, map, zip, refl, ap, ap₂, ◌∙◌, arith, length, min}
use Rattle.sot_lists.specs.Places.{At}
use Rattle.sot_lists.proofs.Places.{at_map, read_at}
use Rattle.sot_syntax_tree.specs.declared.tree.Bounds.{Bounds}
use Rattle.sot_box.specs.Sides.{Side}
use Rattle.sot_regions_rewrite.specs.OtherRegions.{bounds_like}
use Rattle.sot_regions_rewrite.proofs.Steps.{zip_at, one_more, all_pairs}
use Rattle.sot_regions_rewrite.proofs.boxes.box_like.Goals as goal

abbrev like : Bounds × Side → Bounds
like x = bounds_like x.0 x.1

pub loop-i-preserved : goal.loop-i-preserved
loop-i-preserved c =
    let given = c.args.given.now.sides.items in
    let found = c.args.found.now in
    let at_given : At given c.loop-i.i c.index.result.now =
    read_at given given c.loop-i.i c.index.result.now refl (omega (arith, c.loop-i-test.true, c.min-count.ensures, c.len.ensures)) c.index.ensures
    in
    let at : At (map like (zip given found)) c.loop-i.i (bounds_like c.index.result.now c.side.result) =
    at_map like (zip given found) c.loop-i.i (c.index.result.now, c.side.result)
    (zip_at given found c.loop-i.i c.index.result.now c.side.result at_given c.side.ensures)
    in
    one_more (map like (zip given found)) c.loop-i.i (bounds_like c.index.result.now c.side.result) c.loop-i.sides.items c.push.new.self.items at
    c.loop-i.invariant
    (c.in_ok-push.ensures.items ∙ ap (λ (b : Bounds). c.loop-i.sides.items ++ b ∷ []) c.bounds_like.ensures)

pub returns : goal.returns
returns c =
    let long : c.len.result ≡ length c.args.given.now.sides.items = omega (arith, c.len.ensures) in
    ap (λ (xs : List Bounds). record { sides = xs; at = c.args.given.now.at })
    (all_pairs like c.args.given.now.sides.items c.args.found.now c.min-count.result c.loop-i.i c.loop-i.sides.items
    (c.min-count.ensures ∙ ap₂ (λ a b. min a b) long c.len-2.ensures.value) c.loop-i-test.false c.loop-i.invariant)
