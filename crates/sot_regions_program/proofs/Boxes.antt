-- Lists that grow by one.
use Rattle.std.proofs.Common.{◌≡◌, ◌∙◌, ℕ, zero, suc, ◌≤◌, ◌⊎◌, inl, inr, ℤ, List, [], ◌∷◌, ◌++◌, length, true, Option, None, Some}
use Rattle.std.proofs.Common.{refl, sym, ap, subst, arith}
use Rattle.std.specs.Prelude.{IfSome, MatchOption}
use Rattle.std.proofs.lemmas.Option.{none-some, same_Some}
use Rattle.sot_lists.specs.Places.{At}
use Rattle.sot_box.specs.Sides.{Side}
use Rattle.sot_box.specs.BoxList.{BoxList}
use Rattle.sot_box.specs.Regions.{IsInRegion, CoversAll, IsFirstGap}
use Rattle.sot_regions_program.specs.Findings.{IsInside, IsBoxFor, AreBoxesFor, IsList}

-- what stands in a list behind which one is put
pub last_or : {A : Type 0} (xs : List A) (x : A) (m : ℕ) (y : A) → At (xs ++ x ∷ []) m y → At xs m y ⊎ ((m ≡ length xs) × (x ≡ y))
last_or [] x zero y at = inr (refl, same_Some x y at)
last_or [] x (suc m) y at = absurd (none-some y at)
last_or (z ∷ zs) x zero y at = inl at
last_or (z ∷ zs) x (suc m) y at = by (last_or zs x m y at)
  where
    by : At zs m y ⊎ ((m ≡ length zs) × (x ≡ y)) → At zs m y ⊎ ((suc m ≡ suc (length zs)) × (x ≡ y))
    by (inl before) = inl before
    by (inr (last, same)) = inr (ap suc last, same)

pub at_last : {A : Type 0} (xs : List A) (x : A) → At (xs ++ x ∷ []) (length xs) x
at_last [] x = refl
at_last (z ∷ zs) x = at_last zs x

-- a box more
pub no_boxes : (width : ℕ) → AreBoxesFor width []
no_boxes width i box at = absurd (none-some box at)

pub more_boxes : (width : ℕ) (boxes : List (List Side)) (b : List Side) → AreBoxesFor width boxes → IsBoxFor width b → AreBoxesFor width (boxes ++ b ∷ [])
more_boxes width boxes b each one i box at = by (last_or boxes b i box at)
  where
    by : At boxes i box ⊎ ((i ≡ length boxes) × (b ≡ box)) → IsBoxFor width box
    by (inl before) = each i box before
    by (inr (last, same)) = subst (λ (x : List Side). IsBoxFor width x) same one

-- so many boxes, with their index
pub settled_list : (found : Option BoxList) (region after : BoxList) (width most count : ℕ)
    → IfSome found (λ r. (r.width ≡ width) × (length r.boxes ≡ count) × AreBoxesFor width r.boxes) → found ≡ Some region
    → after.boxes ≡ region.boxes → after.width ≡ region.width → after.settled ≡ true → 1 ≤ count → count ≤ most → IsList width most after
settled_list found region after width most count known is boxes wide settled some few =
    let own : (region.width ≡ width) × (length region.boxes ≡ count) × AreBoxesFor width region.boxes =
    subst (λ (o : Option BoxList). IfSome o (λ r. (r.width ≡ width) × (length r.boxes ≡ count) × AreBoxesFor width r.boxes)) is known
    in
    let counted : length after.boxes ≡ count = ap length boxes ∙ own.1 in
    record {
      width_is = wide ∙ own.0;
      count = (omega (arith, counted, some), omega (arith, counted, few));
      each = subst (λ (bs : List (List Side)). AreBoxesFor width bs) (sym boxes) own.2;
      settled = settled;
    }

-- the width by another name
pub own_list : (found : Option BoxList) (region : BoxList) (width own most : ℕ) → IfSome found (λ r. IsList width most r) → found ≡ Some region → width ≡ own
    → IsList own most region
own_list found region width own most known is same =
    subst (λ (w : ℕ). IsList w most region) same (subst (λ (o : Option BoxList). IfSome o (λ r. IsList width most r)) is known)

-- a region that covers all boxes of another one has all of its points
in_covered : (boxes region : List (List Side)) (s : List ℤ) → CoversAll boxes region → IsInRegion boxes s → IsInRegion region s
in_covered [] region s covers inside = absurd inside
in_covered (b ∷ bs) region s covers (inl here) = covers.0 s here
in_covered (b ∷ bs) region s covers (inr later) = in_covered bs region s covers.1 later

pub all_inside : (gap : Option (List ℤ)) (found given : BoxList)
    → MatchOption gap (CoversAll found.boxes given.boxes) (λ p. IsFirstGap found.boxes given.boxes p) → gap ≡ None → IsInside found given
all_inside None found given covers is = λ s inside. in_covered found.boxes given.boxes s covers inside
all_inside (Some p) found given gap is = absurd cc
