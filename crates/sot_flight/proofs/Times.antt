-- The time of the last input.
use Rattle.std.proofs.Common.{◌≡◌, suc, ◌-◌, ◌<◌, List, [], ◌∷◌, length, map, get_or, refl, sym, subst, arith}
use Rattle.sot_flight.specs.declared.input.Input.{Input}
use Rattle.sot_flight.specs.FlightView.{input_of}
use Rattle.sot_flight.specs.FlightFormat.{last_time}

pub last_none : (xs : List Input) → length xs ≡ 0 → last_time (map input_of xs) ≡ 0
last_none [] h = refl
last_none (x ∷ xs) h = absurd (omega arith)

pub last_at : (xs : List Input) (d : Input) → 0 < length xs → (get_or xs (length xs - 1) d).at ≡ last_time (map input_of xs)
last_at [] d h = absurd (omega arith)
last_at (x ∷ []) d h = refl
last_at (x ∷ y ∷ xs) d h =
    let k : suc (suc (length xs)) - 1 ≡ suc (suc (length xs) - 1) = omega arith in
    subst (λ n. (get_or (x ∷ y ∷ xs) n d).at ≡ last_time (map input_of (y ∷ xs))) (sym k) (last_at (y ∷ xs) d (omega arith))
