use Rattle.std.proofs.Common.{inl, inr, ⊎_elim, List, refl, sym, subst}
use Rattle.std.proofs.lemmas.Bool.{false≢true}
use Rattle.std.proofs.lemmas.Option.{slice_get_within}
use Rattle.sot_lists.proofs.Places.{at_same}
use Rattle.sot_box.specs.Sides.{Side}
use Rattle.sot_box.specs.Boxes.{IsWithin}
use Rattle.sot_box.specs.Regions.{IsInRegion}
use Rattle.sot_recover.proofs.RegionMore.{in_more, more_in}
use Rattle.sot_recover.proofs.near.push_chosen.Goals as goal

pub returns-then-not-is_chosen-clause-points : goal.returns-then-not-is_chosen-clause-points
returns-then-not-is_chosen-clause-points c s = (
  λ h. inl h,
  λ w. ⊎_elim (λ h. h) (λ x. absurd (false≢true (c.if-not-is_chosen.ensures.1 (slice_get_within c.args.cells.now c.args.i x.0 x.2, x.1)))) w,
)

pub returns-in-Ok-clause-points : goal.returns-in-Ok-clause-points
returns-in-Ok-clause-points c s =
    let cell = c.at.result in
    let old = c.args.near.now.boxes in
    let flagged = (c.if-not-is_chosen.ensures.0 refl).1 in (
      λ h. ⊎_elim (λ o. inl o) (λ w. inr (cell, flagged, c.at.ensures, w)) (in_more old cell s (subst (λ bs. IsInRegion bs s) c.in-Ok.ensures.ok h)),
      λ w. subst (λ bs. IsInRegion bs s) (sym c.in-Ok.ensures.ok)
          (more_in old cell s (⊎_elim (λ o. inl o) (λ x. inr (subst (λ (b : List Side). IsWithin b s)
          (at_same c.args.cells.now c.args.i x.0 cell x.2 c.at.ensures) x.3)) w)),
    )
