-- Which region is a plant's safe one, and plants that are in theirs.
use Rattle.std.proofs.Common.{◌≡◌, ℕ, zero, suc, ℤ, ⊎_elim, List, [], ◌∷◌, map, refl, ap, ◌∙◌, arith, eqb}
use Rattle.std.proofs.lemmas.Bool.{cond-true, cond-false, eq-eqb, ne_eqb, cases_eq}
use Rattle.sot_lists.specs.Places.{At, Has}
use Rattle.sot_box.specs.Regions.{IsInRegion, IsHull}
use Rattle.sot_box.specs.Sides.{Side, AreOrdered}
use Rattle.sot_box.proofs.Ranges.{within_in_order}
use Rattle.sot_box.proofs.Ordered.{append_ordered}
use Rattle.sot_lang.specs.declared.tables.ModuleInfo.{ModuleInfo}
use Rattle.sot_lang.specs.SafeRegions.{safe_of, AreSafe, AreHulls, joined_boxes}

pub safe_of_is : (ms : List ModuleInfo) (m : ℕ) (a : ModuleInfo) → At ms m a → ((i : ℕ) (b : ModuleInfo) → At ms i b → b.plant ≡ a.plant → i ≡ m)
    → safe_of ms a.plant ≡ a.safe.boxes
safe_of_is [] m a at one = cc
safe_of_is (b ∷ ms) zero a at one =
    let e : b ≡ a = cc in
    cond-true (eqb b.plant a.plant) b.safe.boxes (safe_of ms a.plant) (eq-eqb b.plant a.plant (ap (λ x. x.plant) e)) ∙ ap (λ x. x.safe.boxes) e
safe_of_is (b ∷ ms) (suc m) a at one =
    ⊎_elim
    (λ e. let z = one 0 b refl e in absurd (omega arith))
    (λ ne. cond-false (eqb b.plant a.plant) b.safe.boxes (safe_of ms a.plant) (ne_eqb b.plant a.plant ne)
    ∙ safe_of_is ms m a at (λ i c at' e. let z = one (suc i) c at' e in omega arith))
    (cases_eq b.plant a.plant)

pub are_safe : (ms : List ModuleInfo) (points : ℕ → List ℤ) (ks : List ℕ) → ((k : ℕ) → Has ks k → IsInRegion (safe_of ms k) (points k))
    → AreSafe ms ks (map points ks)
are_safe ms points [] h = tt
are_safe ms points (k ∷ ks) h = (h k (0, refl), are_safe ms points ks (λ n has. h n (suc has.0, has.1)))

-- hulls have points, so their sides are in order
pub hulls_ordered : (ms : List ModuleInfo) (ks : List ℕ) (hulls : List (List Side)) → AreHulls ms ks hulls → AreOrdered (joined_boxes hulls)
hulls_ordered ms [] [] are = tt
hulls_ordered ms (k ∷ ks) (h ∷ hs) are = append_ordered h (joined_boxes hs) (here are.0) (hulls_ordered ms ks hs are.1)
  where
    here : IsHull (safe_of ms k) h → AreOrdered h
    here is = within_in_order h is.has_point.0 (is.holds is.has_point.0 is.has_point.1)
hulls_ordered ms [] (h ∷ hs) are = absurd are
hulls_ordered ms (k ∷ ks) [] are = absurd are
