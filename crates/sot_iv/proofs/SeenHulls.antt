-- The hulls of seen plants, one more at a time.
use Rattle.std.proofs.Common.{◌≡◌, ℕ, zero, suc, ◌+◌, ◌≤◌, List, [], ◌∷◌, ◌++◌, take, refl, sym, ap, ◌∙◌, subst, append_assoc, append-nil, arith}
use Rattle.sot_box.specs.Sides.{Side}
use Rattle.sot_lists.specs.Places.{At}
use Rattle.sot_box.specs.Regions.{IsHull}
use Rattle.std.proofs.lemmas.Option.{none-some, same_Some}
use Rattle.sot_lang.specs.declared.tables.ModuleInfo.{ModuleInfo}
use Rattle.sot_lang.specs.declared.tables.PlantInfo.{PlantInfo}
use Rattle.sot_lang.specs.OwnerNames.{width_of, seen_width}
use Rattle.sot_lang.specs.SafeRegions.{safe_of, AreHulls, joined_boxes}
use Rattle.sot_iv.specs.SeenHulls.{AreSeenHulls}

hulls_more : (ms : List ModuleInfo) (ks : List ℕ) (hs : List (List Side)) (k : ℕ) (h : List Side) → AreHulls ms ks hs → IsHull (safe_of ms k) h
    → AreHulls ms (ks ++ k ∷ []) (hs ++ h ∷ [])
hulls_more ms [] [] k h are is = (is, tt)
hulls_more ms (j ∷ ks) (g ∷ hs) k h are is = (are.0, hulls_more ms ks hs k h are.1 is)
hulls_more ms [] (g ∷ hs) k h are is = absurd are
hulls_more ms (j ∷ ks) [] k h are is = absurd are

joined_more : (hs : List (List Side)) (h : List Side) → joined_boxes (hs ++ h ∷ []) ≡ joined_boxes hs ++ h
joined_more [] h = append-nil h
joined_more (g ∷ hs) h = rw (joined_more hs h) (sym (append_assoc g (joined_boxes hs) h))

take_more : (ks : List ℕ) (i k : ℕ) → At ks i k → take (suc i) ks ≡ take i ks ++ k ∷ []
take_more [] i k at = absurd (none-some k at)
take_more (j ∷ ks) zero k at = rw (same_Some j k at) refl
take_more (j ∷ ks) (suc i) k at = ap (λ q. j ∷ q) (take_more ks i k at)

width_more : (ps : List PlantInfo) (ks : List ℕ) (k : ℕ) → seen_width ps (ks ++ k ∷ []) ≡ seen_width ps ks + width_of ps k
width_more ps [] k = omega arith
width_more ps (j ∷ ks) k = let e = width_more ps ks k in omega arith

-- what is seen so far and one more plant is no wider than all
pub width_fits : (ps : List PlantInfo) (ks : List ℕ) (i k : ℕ) → At ks i k → (seen_width ps (take i ks) + width_of ps k) ≤ seen_width ps ks
width_fits ps [] i k at = absurd (none-some k at)
width_fits ps (j ∷ ks) zero k at = let e : width_of ps j ≡ width_of ps k = ap (width_of ps) (same_Some j k at) in omega arith
width_fits ps (j ∷ ks) (suc i) k at = let e = width_fits ps ks i k at in omega arith

pub seen_more : (ms : List ModuleInfo) (ks : List ℕ) (i k : ℕ) (sides h : List Side) → At ks i k → AreSeenHulls ms (take i ks) sides → IsHull (safe_of ms k) h
    → AreSeenHulls ms (take (suc i) ks) (sides ++ h)
seen_more ms ks i k sides h at seen is =
    let hs = seen.0 in
    let more : AreSeenHulls ms (take i ks ++ k ∷ []) (sides ++ h) =
    (hs ++ h ∷ [], hulls_more ms (take i ks) hs k h seen.1 is, ap (λ q. q ++ h) seen.2 ∙ sym (joined_more hs h)) in
    subst (λ q. AreSeenHulls ms q (sides ++ h)) (sym (take_more ks i k at)) more

pub width_next : (ps : List PlantInfo) (ks : List ℕ) (i k : ℕ) → At ks i k → seen_width ps (take (suc i) ks) ≡ seen_width ps (take i ks) + width_of ps k
width_next ps ks i k at = ap (seen_width ps) (take_more ks i k at) ∙ width_more ps (take i ks) k
