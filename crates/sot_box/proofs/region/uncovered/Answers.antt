use Rattle.std.proofs.Common.{◌≡◌, ap, ◌∙◌}
use Rattle.sot_box.specs.BoxList.{BoxList}
use Rattle.sot_box.proofs.Within.{covers-more, covers-all, first-gap, placed}
use Rattle.sot_box.proofs.region.uncovered.Goals as goal

pub returns-in-Some : goal.returns-in-Some
returns-in-Some c =
    let items : c.deref-b-items.result.now ≡ c.args.of.now.boxes = c.deref-b-items.ensures.value ∙ ap (λ (a : BoxList). a.boxes) c.of.view_is in
    first-gap c.args.of.now.boxes c.args.by.now.boxes c.loop-b.b-index c.b-item.result c.in-Some.p
    (placed c.deref-b-items.result.now c.args.of.now.boxes c.loop-b.b-index c.b-item.result items c.loop-b-test.true c.b-item.is)
    c.loop-b.invariant c.in-Some.ensures

pub loop-b-preserved : goal.loop-b-preserved
loop-b-preserved c =
    let items : c.deref-b-items.result.now ≡ c.args.of.now.boxes = c.deref-b-items.ensures.value ∙ ap (λ (a : BoxList). a.boxes) c.of.view_is in
    covers-more c.args.of.now.boxes c.args.by.now.boxes c.loop-b.b-index c.b-item.result
    (placed c.deref-b-items.result.now c.args.of.now.boxes c.loop-b.b-index c.b-item.result items c.loop-b-test.true c.b-item.is)
    c.loop-b.invariant c.in_default.ensures

pub returns : goal.returns
returns c =
    let items : c.deref-b-items.result.now ≡ c.args.of.now.boxes = c.deref-b-items.ensures.value ∙ ap (λ (a : BoxList). a.boxes) c.of.view_is in
    covers-all c.deref-b-items.result.now c.args.of.now.boxes c.args.by.now.boxes c.loop-b.b-index items c.loop-b-test.false c.loop-b.invariant
