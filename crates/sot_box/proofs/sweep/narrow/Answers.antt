use Rattle.std.proofs.Common.{◌≡◌, pos, ap, sym, ◌∙◌, arith, rules, w64, SFits, to_z, of_z}
use Rattle.std.proofs.lemmas.Int.{to_z-of_z}
use Rattle.std.proofs.lemmas.Option.{get_or_from_slice_get}
use Rattle.sot_box.specs.Boxes.{highs}
use Rattle.sot_box.specs.Sweep.{coordinate}
use Rattle.sot_box.proofs.Within.{highs-at}
use Rattle.sot_box.proofs.Sweeps.{IsPut, put-by, narrow-step}
use Rattle.sot_box.proofs.sweep.narrow.Goals as goal

pub loop-k-preserved : goal.loop-k-preserved
loop-k-preserved c =
    let v : c.side.inside.hi ≡ c.side-side.result.hi = ap (λ r. r.hi) c.side.view_is in
    let h : coordinate (highs c.args.by.now) c.loop-k.k ≡ c.side.inside.hi = highs-at c.args.by.now c.loop-k.k c.side-side.result c.side-side.ensures ∙ sym v in
    let r : coordinate c.loop-k.reach c.loop-k.k ≡ c.at.result = get_or_from_slice_get c.loop-k.reach c.loop-k.k c.at.result (pos 0) c.at.ensures in
    let f : SFits w64 c.side.inside.hi = search rules in
    let g : SFits w64 c.at.result = search rules in
    let m : SFits w64 c.min-least.result = search rules in
    let p : IsPut c.loop-k.reach c.loop-k.k c.min-least.result c.set.new.self =
    put-by c.loop-k.reach c.set.new.self c.loop-k.k c.min-least.result (to_z w64 (of_z w64 c.min-least.result)) c.set.ensures
    (to_z-of_z w64 c.min-least.result m)
    (omega (arith, c.loop-k.invariant.width, c.requires)) in
    narrow-step c.args.by.now c.loop-k.k c.args.reach.now c.loop-k.reach c.set.new.self c.min-least.result c.loop-k.invariant
    (rw (r, h) (simp to_z-of_z at c.min-least.ensures.value)) p
