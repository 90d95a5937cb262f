-- What a board's tick asks of the stated disturbances.
use Rattle.std.proofs.Common.{◌≡◌, ℕ, suc, ℤ, List, [], ◌∷◌, ◌++◌, length, take, drop, refl, sym, ap, ap₂, ◌∙◌, subst, arith, length-append}
use Rattle.std.specs.Prelude.{slice_index_or}
use Rattle.std.proofs.Math.Seq.{take-append_seam, drop-append_seam}
use Rattle.sot_lists.specs.Places.{At}
use Rattle.sot_box.specs.Boxes.{IsWithin}
use Rattle.sot_lang.specs.declared.tables.PlantInfo.{PlantInfo}
use Rattle.sot_lang.specs.Ranges.{bounds}
use Rattle.sot_lang.specs.Ticks.{joined}
use Rattle.sot_world.specs.Events.{noise_count, cut, IsInBounds}

take_front : {A : Type 0} (xs ys : List A) (n : ℕ) → length xs ≡ n → take n (xs ++ ys) ≡ xs
take_front xs ys n e = ap (λ k. take k (xs ++ ys)) (sym e) ∙ take-append_seam xs ys

drop_front : {A : Type 0} (xs ys : List A) (n : ℕ) → length xs ≡ n → drop n (xs ++ ys) ≡ ys
drop_front xs ys n e = ap (λ k. drop k (xs ++ ys)) (sym e) ∙ drop-append_seam xs ys

-- lists of the plants' disturbances, one after another: how many they are, how they are cut, and their bounds
pub noise_size : (plants : List PlantInfo) (ws : List (List ℤ)) → length ws ≡ length plants
    → ((k : ℕ) (plant : PlantInfo) → At plants k plant → length (slice_index_or ws k []) ≡ length plant.noise.items) → length (joined ws) ≡ noise_count plants
noise_size [] [] size each = refl
noise_size [] (w ∷ ws) size each = cc
noise_size (p ∷ plants) [] size each = cc
noise_size (p ∷ plants) (w ∷ ws) size each =
    let rest = noise_size plants ws (omega (arith, size)) (λ k. each (suc k)) in
    omega (arith, rest, each 0 p refl, length-append w (joined ws))

pub cut_joined : (plants : List PlantInfo) (ws : List (List ℤ)) → length ws ≡ length plants
    → ((k : ℕ) (plant : PlantInfo) → At plants k plant → length (slice_index_or ws k []) ≡ length plant.noise.items) → cut plants (joined ws) ≡ ws
cut_joined [] [] size each = refl
cut_joined [] (w ∷ ws) size each = cc
cut_joined (p ∷ plants) [] size each = cc
cut_joined (p ∷ plants) (w ∷ ws) size each =
    let n = length p.noise.items in
    ap₂ (λ a b. a ∷ cut plants b) (take_front w (joined ws) n (each 0 p refl)) (drop_front w (joined ws) n (each 0 p refl))
    ∙ ap (λ l. w ∷ l) (cut_joined plants ws (omega (arith, size)) (λ k. each (suc k)))

pub joined_within : (plants : List PlantInfo) (ws : List (List ℤ)) → length ws ≡ length plants
    → ((k : ℕ) (plant : PlantInfo) → At plants k plant → length (slice_index_or ws k []) ≡ length plant.noise.items)
    → ((k : ℕ) (plant : PlantInfo) → At plants k plant → IsWithin (bounds plant) (slice_index_or ws k [])) → IsInBounds plants (joined ws)
joined_within [] ws size each within = tt
joined_within (p ∷ plants) [] size each within = cc
joined_within (p ∷ plants) (w ∷ ws) size each within =
    let n = length p.noise.items in (
      subst (IsWithin (bounds p)) (sym (take_front w (joined ws) n (each 0 p refl))) (within 0 p refl),
      subst (IsInBounds plants) (sym (drop_front w (joined ws) n (each 0 p refl)))
          (joined_within plants ws (omega (arith, size)) (λ k. each (suc k)) (λ k. within (suc k))),
    )
