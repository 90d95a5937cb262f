use Rattle.std.proofs.Common.{rules, ◌≡◌, get_or, sym, ap, ◌∙◌, w64, SFits, subst}
use Rattle.std.specs.Prelude.{Some}
use Rattle.std.proofs.lemmas.Int.{to_z-of_z}
use Rattle.std.proofs.lemmas.Option.{slice_get-get_or}
use Rattle.sot_lists.specs.Places.{At}
use Rattle.sot_lang.specs.Tables.{Tables}
use Rattle.sot_lang.specs.TableRules.{MeetsTableRules}
use Rattle.sot_iv.proofs.bounds.scalar_side.Goals as goal

pub invariant_of-result : goal.invariant_of-result
invariant_of-result c =
    let p = c.args.p.now in
    let info = c.index-info.result.now in
    let is : info ≡ get_or p.scalars c.args.scalar info = c.index-info.ensures ∙ ap (λ (t : Tables). get_or t.scalars c.args.scalar info) c.p.view_is in
    let at : At p.scalars c.args.scalar info = slice_get-get_or p.scalars c.args.scalar info c.requires ∙ ap Some (sym is) in
    let tables = subst MeetsTableRules c.p.view_is c.p.invariant in
    let lo_fits : SFits w64 info.lo = search rules in
    let hi_fits : SFits w64 info.hi = search rules in
    rw (to_z-of_z w64 info.lo lo_fits, to_z-of_z w64 info.hi hi_fits) (tables.scalars c.args.scalar info at).range.0
