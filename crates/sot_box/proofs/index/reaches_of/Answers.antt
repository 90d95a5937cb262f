use Rattle.std.proofs.Common.{◌≡◌, ◌<◌, ◌∙◌, refl, sym, ap, pos, get_or, length, rules, w64, SFits, to_z, of_z}
use Rattle.std.specs.Int.{int_max}
use Rattle.std.proofs.lemmas.Int.{to_z-of_z}
use Rattle.sot_box.specs.Sides.{Side}
use Rattle.sot_box.specs.Boxes.{highs}
use Rattle.sot_box.specs.Sweep.{coordinate}
use Rattle.sot_box.specs.declared.index.Entry.{Entry}
use Rattle.sot_box.proofs.Within.{placed, highs-at}
use Rattle.sot_box.proofs.Indexes.{reached_more, reached_all}
use Rattle.sot_box.proofs.index.reaches_of.Goals as goal

abbrev nothing : Entry
nothing = record { low = pos 0; place = 0 }

pub loop-e-preserved : goal.loop-e-preserved
loop-e-preserved c =
    let lt : (get_or c.args.entries.now c.loop-e.e-index nothing).place < length c.args.boxes.now = c.requires c.loop-e.e-index nothing c.loop-e-test.true in
    let place = placed c.args.boxes.now c.args.boxes.now (get_or c.args.entries.now c.loop-e.e-index nothing).place c.index-boxes-e.result refl lt
    c.index-boxes-e.is in
    let high : coordinate (highs c.index-boxes-e.result) 0 ≡ c.first.result.hi = highs-at c.index-boxes-e.result 0 c.first.result c.first.ensures in
    let f : SFits w64 c.max-greatest.result = search rules in
    let g : SFits w64 c.max.inside.hi = search rules in
    let max : to_z w64 (of_z w64 c.max-greatest.result) ≡ int_max (to_z w64 c.loop-e.greatest-bits) (coordinate (highs c.index-boxes-e.result) 0) =
    to_z-of_z w64 c.max-greatest.result f ∙ c.max-greatest.ensures.value
    ∙ ap (int_max (to_z w64 c.loop-e.greatest-bits)) (to_z-of_z w64 c.max.inside.hi g ∙ ap (λ (s : Side). s.hi) c.max.view_is ∙ sym high) in
    reached_more c.args.boxes.now c.args.entries.now c.loop-e.e-index _ _ c.loop-e.reaches.items c.push.new.self.items nothing c.index-boxes-e.result
    c.loop-e.invariant place max c.in_ok-push.ensures.items

pub returns : goal.returns
returns c =
    reached_all c.args.boxes.now c.args.entries.now c.loop-e.e-index _ c.loop-e.reaches.items c.loop-e.auto.e-index-end c.loop-e-test.false c.loop-e.invariant
