use Rattle.std.proofs.Common.{◌≡◌, ◌∙◌, refl, sym, ap, rules, w64, SFits, to_z, of_z}
use Rattle.std.proofs.lemmas.Int.{to_z-of_z}
use Rattle.sot_box.specs.Sides.{Side}
use Rattle.sot_box.specs.Boxes.{lows}
use Rattle.sot_box.specs.Sweep.{coordinate}
use Rattle.sot_box.proofs.Within.{placed, lows-at}
use Rattle.sot_box.proofs.Indexes.{entries_more, entries_all}
use Rattle.sot_box.proofs.index.entries_of.Goals as goal

pub loop-i-preserved : goal.loop-i-preserved
loop-i-preserved c =
    let place = placed c.args.boxes.now c.args.boxes.now c.loop-i.i c.index-boxes-i.result refl c.loop-i-test.true c.index-boxes-i.is in
    let low : coordinate (lows c.index-boxes-i.result) 0 ≡ c.first.result.lo = lows-at c.index-boxes-i.result 0 c.first.result c.first.ensures in
    let f : SFits w64 c.push.inside.lo = search rules in
    let kept : to_z w64 (of_z w64 c.push.inside.lo) ≡ c.push.inside.lo = to_z-of_z w64 c.push.inside.lo f in
    let seen : c.push.inside.lo ≡ c.first.result.lo = ap (λ (s : Side). s.lo) c.push.view_is in
    c.in_ok-push.ensures.items ∙ entries_more c.args.boxes.now c.loop-i.i c.index-boxes-i.result (to_z w64 (of_z w64 c.push.inside.lo)) c.loop-i.entries.items
    place (low ∙ sym seen ∙ sym kept) c.loop-i.invariant

pub returns : goal.returns
returns c = c.loop-i.invariant ∙ entries_all c.args.boxes.now c.loop-i.i c.loop-i-test.false
