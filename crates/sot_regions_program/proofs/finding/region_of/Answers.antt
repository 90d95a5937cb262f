use Rattle.std.proofs.Common.{◌≡◌, ◌∙◌, List, [], ◌∷◌, length, sym, ap, subst, arith}
use Rattle.std.proofs.lemmas.List.{length-append}
use Rattle.sot_box.specs.Sides.{Side}
use Rattle.sot_regions_program.specs.Findings.{AreBoxesFor}
use Rattle.sot_regions_program.proofs.Boxes.{more_boxes}
use Rattle.sot_regions_program.proofs.finding.region_of.Goals as goal

pub loop-i-preserved : goal.loop-i-preserved
loop-i-preserved c =
    let before = c.loop-i.invariant in
    let b : List Side = c.index-boxes-i.result in
    let boxes : List (List Side) = c.loop-i.region.boxes in
    let put = c.in-Ok.ensures.ok in
    let one_longer = length-append boxes (b ∷ []) in
    let put_length = ap length put in
    let counted = before.1 in
    let wide : length b ≡ c.args.width = omega (arith, c.len.ensures.value, c.if-len-width.false) in (
      c.in-Ok.ensures.width ∙ before.0,
      omega (arith, put_length, one_longer, counted),
      subst (λ (bs : List (List Side)). AreBoxesFor c.args.width bs) (sym put)
          (more_boxes c.args.width boxes b before.2 (wide, c.len.ensures.ordered, c.are_short.ensures c.if-not-are_short.false)),
    )
