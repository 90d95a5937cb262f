use Rattle.std.proofs.Common.{rules, sym, ap, ◌∙◌, w64, SFits}
use Rattle.std.proofs.lemmas.Int.{to_z-of_z}
use Rattle.std.proofs.lemmas.Option.{slice_get-get_or}
use Rattle.std.specs.Prelude.{Some}
use Rattle.sot_iv.proofs.bounds.put_bounds.Goals as goal

pub invariant_of-push : goal.invariant_of-push
invariant_of-push c =
    let d = c.info-item.result in
    let lo_fits : SFits w64 d.lo = search rules in
    let hi_fits : SFits w64 d.hi = search rules in
    let at = slice_get-get_or c.args.noise.now c.loop-info.info-index d c.loop-info-test.true ∙ ap Some (sym c.info-item.is) in
    rw (to_z-of_z w64 d.lo lo_fits, to_z-of_z w64 d.hi hi_fits) (c.requires.ordered c.loop-info.info-index d at)
