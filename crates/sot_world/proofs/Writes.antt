-- What an input writes.
use Rattle.std.proofs.Common.{◌≡◌, ℕ, suc, ◌+◌, ◌<◌, ℤ, pos, List, [], ◌∷◌, length, refl, ◌∙◌, arith, add-zero}
use Rattle.std.specs.Prelude.{slice_index_or, slice_set}
use Rattle.std.proofs.lemmas.List.{get_or-set_other, length-set}
use Rattle.sot_box.specs.Sides.{Side, IsIn, nought}
use Rattle.sot_lists.specs.Places.{At}
use Rattle.sot_box.specs.Boxes.{IsWithin}
use Rattle.sot_world.specs.Steps.{write_at}
use Rattle.sot_box.proofs.Ranges.{within_set}

pub write_within : (rs : List Side) (k : ℕ) (zs xs : List ℤ) → IsWithin rs xs → ((i : ℕ) (z : ℤ) → At zs i z → IsIn (slice_index_or rs (k + i) nought) z)
    → IsWithin rs (write_at k zs xs)
write_within rs k [] xs w h = w
write_within rs k (z ∷ zs) xs w h =
    write_within rs (suc k) zs (slice_set xs k z) (within_set rs xs k z w (rw add-zero at (h 0 z refl)))
    (λ i y at. let e : k + suc i ≡ suc k + i = omega arith in rw e at (h (suc i) y at))

pub write_other : (k : ℕ) (zs xs : List ℤ) (n : ℕ) → ((i : ℕ) → i < length zs → n ≡ k + i → ⊥)
    → slice_index_or (write_at k zs xs) n (pos 0) ≡ slice_index_or xs n (pos 0)
write_other k [] xs n ne = refl
write_other k (z ∷ zs) xs n ne =
    write_other (suc k) zs (slice_set xs k z) n (λ i lt e. ne (suc i) (omega arith) (omega arith))
    ∙ get_or-set_other xs k n z (pos 0) (λ e. ne 0 (omega arith) (omega arith))

pub write_length : (k : ℕ) (zs xs : List ℤ) → length (write_at k zs xs) ≡ length xs
write_length k [] xs = refl
write_length k (z ∷ zs) xs = write_length (suc k) zs (slice_set xs k z) ∙ length-set xs k z
