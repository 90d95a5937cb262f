use Rattle.std.proofs.Common.{rules, [], ◌∷◌, ◌++◌, ap, ◌∙◌, w64, SFits, get_or, length, refl}
use Rattle.std.proofs.lemmas.Int.{to_z-of_z}
use Rattle.std.proofs.lemmas.Option.{slice_get-get_or, slice_get_read}
use Rattle.sot_lists.specs.Places.{At}
use Rattle.sot_iv.proofs.ScalarTypes.{word_side, types_more}
use Rattle.sot_iv.proofs.bounds.put_types.Goals as goal

pub bounds-infos-scalar : goal.bounds-infos-scalar
bounds-infos-scalar c =
    c.requires.inside (get_or c.args.scalars.now c.loop-i.i 0) (c.loop-i.i, slice_get-get_or c.args.scalars.now c.loop-i.i 0 c.loop-i-test.true)

pub invariant_of-push : goal.invariant_of-push
invariant_of-push c =
    let info = c.index-infos-scalar.result in
    let k = get_or c.args.scalars.now c.loop-i.i 0 in
    let below = c.requires.inside k (c.loop-i.i, slice_get-get_or c.args.scalars.now c.loop-i.i 0 c.loop-i-test.true) in
    let at : At c.args.infos.now k info = slice_get_read c.args.infos.now (length c.args.infos.now) k info refl below c.index-infos-scalar.is in
    let lo_fits : SFits w64 info.lo = search rules in
    let hi_fits : SFits w64 info.hi = search rules in
    rw (to_z-of_z w64 info.lo lo_fits, to_z-of_z w64 info.hi hi_fits) (c.requires.ordered k info at)

pub loop-i-preserved : goal.loop-i-preserved
loop-i-preserved c =
    let info = c.index-infos-scalar.result in
    let k = get_or c.args.scalars.now c.loop-i.i 0 in
    let below = c.requires.inside k (c.loop-i.i, slice_get-get_or c.args.scalars.now c.loop-i.i 0 c.loop-i-test.true) in
    let at : At c.args.infos.now k info = slice_get_read c.args.infos.now (length c.args.infos.now) k info refl below c.index-infos-scalar.is in
    let lo_fits : SFits w64 info.lo = search rules in
    let hi_fits : SFits w64 info.hi = search rules in
    let pushed = c.push.ensures ∙ ap (λ s. c.loop-i.sides ++ s ∷ []) (word_side info.lo info.hi lo_fits hi_fits) in
    types_more c.args.infos.now c.args.scalars.now c.loop-i.i info c.args.sides.now c.loop-i.sides c.push.new.self c.loop-i-test.true at c.loop-i.invariant
    pushed
