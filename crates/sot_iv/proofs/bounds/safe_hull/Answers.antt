use Rattle.std.proofs.Common.{◌<◌, length, refl, ap, ◌∙◌, subst, arith}
use Rattle.std.proofs.lemmas.Option.{slice_get_read}
use Rattle.sot_lists.specs.Places.{At}
use Rattle.sot_lang.specs.OwnerNames.{width_of}
use Rattle.sot_lang.specs.TableRules.{MeetsTableRules}
use Rattle.sot_iv.proofs.SafeHulls.{hull_answer, safe_answer}
use Rattle.sot_iv.proofs.bounds.safe_hull.Goals as goal

pub returns-then-info-plant : goal.returns-then-info-plant
returns-then-info-plant c =
    let info = c.info-item.result in
    let rules : MeetsTableRules c.args.p.now = subst MeetsTableRules c.p.view_is c.p.invariant in
    let lt : c.loop-info.info-index < length c.deref-info-items.result.now = omega arith in
    let at : At c.args.p.now.modules c.loop-info.info-index info =
    subst (λ q. At q c.loop-info.info-index info) c.loop-info.invariant.0
    (slice_get_read c.deref-info-items.result.now (length c.deref-info-items.result.now) c.loop-info.info-index info refl lt c.info-item.is) in
    let width = (rules.modules c.loop-info.info-index info at).safe.width ∙ ap (width_of c.args.p.now.plants) c.if-info-plant.true in
    safe_answer c.args.p.now.modules c.args.plant c.loop-info.info-index (width_of c.args.p.now.plants c.args.plant) info c.hull.result at c.if-info-plant.true
    c.loop-info.invariant.1 width
    (hull_answer info.safe.boxes info.safe.width c.hull.result c.hull.ensures.least c.hull.ensures.width)
