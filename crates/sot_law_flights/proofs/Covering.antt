-- Whether a region covers a box, settled point by point.
use Rattle.std.proofs.Common.{◌≡◌, ℕ, zero, suc, ℤ, pos, negsuc, ◌+ℤ◌, ◌-ℤ◌, ◌≤ℤ◌, ◌<ℤ◌, ◌⊎◌, ⊎_elim, inl, inr, List, [], ◌∷◌, refl, subst, arith}
use Rattle.std.proofs.lemmas.Int.{ints, by_lt_z}
use Rattle.sot_box.specs.Sides.{Side, IsIn}
use Rattle.sot_box.specs.Boxes.{IsWithin}
use Rattle.sot_box.specs.Regions.{IsInRegion, Covers}
use Rattle.sot_box.proofs.Ranges.{all_without_axes, all_by_first}
use Rattle.sot_world.proofs.Progress.{region_cases}

-- it holds, or it does not
abbrev pub IsSettled : Type 0 → Type 0
IsSettled A = A ⊎ (A → ⊥)

module _ (P : ℤ → Type 0) (each : (z : ℤ) → IsSettled (P z)) where
  -- of n numbers from x on
  from_settled : (n : ℕ) (x : ℤ) → IsSettled ((z : ℤ) → x ≤ℤ z → z <ℤ (x +ℤ pos n) → P z)
  from_settled zero x = inl (λ z low high. absurd (omega (arith, ints, low, high)))
  from_settled (suc n) x =
      ⊎_elim
      (λ here. ⊎_elim
      (λ more. inl (λ z low high. by_lt_z x z
      (λ above. more z (omega (arith, ints, above)) (omega (arith, ints, high)))
      (λ below. let same : x ≡ z = omega (arith, ints, low, below) in subst P same here)))
      (λ not. inr (λ all. not (λ z low high. all z (omega (arith, ints, low)) (omega (arith, ints, high)))))
      (from_settled n (x +ℤ pos 1)))
      (λ out. inr (λ all. out (all x (omega (arith, ints)) (omega (arith, ints)))))
      (each x)

  -- of the numbers of an interval
  interval_settled : (r : Side) → IsSettled ((z : ℤ) → IsIn r z → P z)
  interval_settled r = by_size (r.hi -ℤ r.lo) refl
    where
      by_size : (d : ℤ) → r.hi -ℤ r.lo ≡ d → IsSettled ((z : ℤ) → IsIn r z → P z)
      by_size (negsuc n) size = inl (λ z i. absurd (omega (arith, ints, size, i.0, i.1)))
      by_size (pos n) size =
          ⊎_elim
          (λ all. inl (λ z i. all z i.0 (omega (arith, ints, size, i.1))))
          (λ not. inr (λ all. not (λ z low high. all z (low, omega (arith, ints, size, high)))))
          (from_settled (suc n) r.lo)

-- of the points of a box
box_settled : (box : List Side) (P : List ℤ → Type 0) → ((s : List ℤ) → IsSettled (P s)) → IsSettled ((s : List ℤ) → IsWithin box s → P s)
box_settled [] P each = ⊎_elim (λ here. inl (all_without_axes P here)) (λ not. inr (λ all. not (all [] tt))) (each [])
box_settled (r ∷ rs) P each =
    ⊎_elim
    (λ all. inl (all_by_first P r rs all))
    (λ not. inr (λ all. not (λ z i s w. all (z ∷ s) (i.0, i.1, w))))
    (interval_settled (λ z. (s : List ℤ) → IsWithin rs s → P (z ∷ s)) (λ z. box_settled rs (λ s. P (z ∷ s)) (λ s. each (z ∷ s))) r)

pub covers_settled : (region : List (List Side)) (box : List Side) → IsSettled (Covers region box)
covers_settled region box = box_settled box (IsInRegion region) (region_cases region)
