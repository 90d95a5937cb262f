-- What is left to write, and what is left to publish, gives the whole.
use Rattle.std.proofs.Common.{◌≡◌, ℕ, zero, suc, ◌+◌, ℤ, List, [], ◌∷◌, length, take, drop, refl, sym, ap, ◌∙◌, arith}
use Rattle.std.specs.Prelude.{slice_index_or}
use Rattle.sot_lists.specs.Places.{At}
use Rattle.sot_lists.proofs.Places.{drop_at}
use Rattle.sot_lang.specs.declared.tables.PlantInfo.{PlantInfo}
use Rattle.sot_board.specs.Counts.{state_count}
use Rattle.sot_summary.specs.Outside.{points_in}

-- the states from a plant on
pub states_from : (plants : List PlantInfo) (i : ℕ) (plant : PlantInfo) → At plants i plant
    → state_count (drop i plants) ≡ length plant.states.items + state_count (drop (i + 1) plants)
states_from plants i plant at = ap state_count (drop_at plants i plant at)

head_of : {A : Type 0} (d : A) (xs : List A) (k : ℕ) (y : A) (ys : List A) → drop k xs ≡ y ∷ ys → (slice_index_or xs k d ≡ y) × (drop (suc k) xs ≡ ys)
head_of d [] zero y ys e = cc
head_of d [] (suc k) y ys e = cc
head_of d (x ∷ xs) zero y ys e = (cc, cc)
head_of d (x ∷ xs) (suc k) y ys e = head_of d xs k y ys e

-- a plant's point, and the rest behind it
pub cut_step : (plants : List PlantInfo) (states rest : List ℤ) (k : ℕ) (plant : PlantInfo) → At plants k plant
    → drop k (points_in plants states) ≡ points_in (drop k plants) rest
    → (slice_index_or (points_in plants states) k [] ≡ take (length plant.states.items) rest)
    × (drop (k + 1) (points_in plants states) ≡ points_in (drop (k + 1) plants) (drop (length plant.states.items) rest))
cut_step plants states rest k plant at same =
    let e : suc k ≡ k + 1 = omega arith in
    let parts = head_of [] (points_in plants states) k (take (length plant.states.items) rest)
    (points_in (drop (k + 1) plants) (drop (length plant.states.items) rest))
    (same ∙ ap (λ ks. points_in ks rest) (drop_at plants k plant at)) in
    (parts.0, ap (λ n. drop n (points_in plants states)) (sym e) ∙ parts.1)

pub points_count : (plants : List PlantInfo) (states : List ℤ) → length (points_in plants states) ≡ length plants
points_count [] states = refl
points_count (k ∷ ks) states = (let e = points_count ks (drop (length k.states.items) states) in omega (arith, e))
