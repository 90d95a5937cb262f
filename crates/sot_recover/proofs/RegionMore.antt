-- The cells of a set that meet a box.
use Rattle.std.proofs.Common.{◌⊎◌, inl, inr, ⊎_elim, List, [], ◌∷◌, ◌++◌}
use Rattle.std.specs.Prelude.{ℤ}
use Rattle.sot_box.specs.Sides.{Side}
use Rattle.sot_box.specs.Boxes.{IsWithin}
use Rattle.sot_box.specs.Regions.{IsInRegion}

-- a region with one box more
pub in_more : (bs : List (List Side)) (b : List Side) (s : List ℤ) → IsInRegion (bs ++ b ∷ []) s → IsInRegion bs s ⊎ IsWithin b s
in_more [] b s h = ⊎_elim (λ w. inr w) (λ n. absurd n) h
in_more (x ∷ xs) b s h = ⊎_elim (λ w. inl (inl w)) (λ r. ⊎_elim (λ o. inl (inr o)) (λ w. inr w) (in_more xs b s r)) h

pub more_in : (bs : List (List Side)) (b : List Side) (s : List ℤ) → IsInRegion bs s ⊎ IsWithin b s → IsInRegion (bs ++ b ∷ []) s
more_in [] b s h = ⊎_elim (λ n. absurd n) (λ w. inl w) h
more_in (x ∷ xs) b s h = ⊎_elim (λ o. ⊎_elim (λ w. inl w) (λ r. inr (more_in xs b s (inl r))) o) (λ w. inr (more_in xs b s (inr w))) h
