-- Lists put one after another.
use Rattle.std.proofs.Common.{◌≡◌, ℕ, zero, suc, ◌≤◌, ℤ, List, [], ◌∷◌, length, take, refl, arith, length-append}
use Rattle.std.specs.Prelude.{slice_index_or}
use Rattle.sot_lists.specs.Places.{At}
use Rattle.sot_lang.specs.Ticks.{joined}
use Rattle.sot_lang.specs.declared.tables.PlantInfo.{PlantInfo}
use Rattle.sot_board.specs.Counts.{state_count}

-- they are no longer than all
pub joined_short : (xs : List (List ℤ)) (i : ℕ) → length (joined (take i xs)) ≤ length (joined xs)
joined_short [] zero = omega arith
joined_short [] (suc i) = omega arith
joined_short (x ∷ xs) zero = omega arith
joined_short (x ∷ xs) (suc i) = (let rest = joined_short xs i in omega (arith, rest, length-append x (joined xs), length-append x (joined (take i xs))))

-- the states of plants, each of its width
pub joined_size : (plants : List PlantInfo) (points : List (List ℤ)) → length points ≡ length plants
    → ((k : ℕ) (plant : PlantInfo) → At plants k plant → length (slice_index_or points k []) ≡ length plant.states.items)
    → length (joined points) ≡ state_count plants
joined_size [] [] size wide = refl
joined_size [] (s ∷ points) size wide = cc
joined_size (x ∷ plants) [] size wide = cc
joined_size (x ∷ plants) (s ∷ points) size wide =
    let rest = joined_size plants points (omega (arith, size)) (λ k. wide (suc k)) in
    omega (arith, rest, wide 0 x refl, length-append s (joined points))
