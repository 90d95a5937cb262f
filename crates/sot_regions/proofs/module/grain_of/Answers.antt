use Rattle.std.proofs.Common.{◌<◌, sym, ◌∙◌, w64, rules, arith}
use Rattle.std.proofs.lemmas.Int.{to_z-of_z, fits_signed_from_abs}
use Rattle.sot_regions.proofs.UnitGrains.{told_on}
use Rattle.sot_regions.proofs.module.grain_of.Goals as goal

pub returns : goal.returns
returns c =
    told_on c.args.grid.now c.args.side c.grain.result c.try_from.result _ _ c.grain.ensures c.try_from.ensures
    (λ few. let less : c.grain.result < 9223372036854775808 = omega (arith, few) in fits_signed_from_abs w64 _ less)
    (sym c.unwrap_or.ensures ∙ sym (to_z-of_z w64 c.unwrap_or.result (search rules)))
