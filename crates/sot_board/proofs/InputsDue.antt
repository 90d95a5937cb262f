-- Which inputs are due.
use Rattle.std.proofs.Common.{◌≡◌, ◌≢◌, ℕ, zero, suc, ◌≤◌, List, [], ◌∷◌, refl, sym, ap, subst, arith}
use Rattle.std.proofs.lemmas.Option.{none-some, same_Some}
use Rattle.sot_lists.specs.Places.{At}
use Rattle.sot_flight.specs.Plans.{StatedInput}
use Rattle.sot_board.specs.Flown.{NoInputDue}
use Rattle.sot_board.specs.Standing.{Standing, IsStanding}
use Rattle.sot_board.specs.Calls.{InputDue}

-- inputs by time: none comes before the first one
first_least :
    (x : StatedInput) (xs : List StatedInput) → ((i : ℕ) (y z : StatedInput) → At (x ∷ xs) i y → At (x ∷ xs) (suc i) z → y.at ≤ z.at)
    → (i : ℕ) (y : StatedInput) → At (x ∷ xs) i y → x.at ≤ y.at
first_least x xs ordered zero y at = (let e = same_Some x y at in omega (arith, ap (λ z. z.at) e))
first_least x [] ordered (suc i) y at = absurd (none-some y at)
first_least x (w ∷ xs) ordered (suc i) y at =
    let rest = first_least w xs (λ j. ordered (suc j)) i y at in
    let here = ordered 0 x w refl refl in
    omega (arith, rest, here)

-- where the next input is not due, none is
none_due : (t : ℕ) (xs : List StatedInput) → ((i : ℕ) (x : StatedInput) → At xs i x → t ≤ x.at)
    → ((i : ℕ) (y z : StatedInput) → At xs i y → At xs (suc i) z → y.at ≤ z.at)
    → ((x : StatedInput) (rest : List StatedInput) → xs ≡ x ∷ rest → x.at ≡ t → ⊥) → (i : ℕ) (x : StatedInput) → At xs i x → x.at ≢ t
none_due t [] ahead ordered not i x at now = none-some x at
none_due t (w ∷ xs) ahead ordered not i x at now =
    let least = first_least w xs ordered i x at in
    let first = ahead 0 w refl in
    not w xs refl (omega (arith, least, first, now))

pub no_input_due : (b : Standing) → IsStanding b → (InputDue b.position → ⊥) → NoInputDue b.position
no_input_due b is not = none_due b.position.at.time b.position.inputs is.ahead is.ordered (λ x rest same now. not (x, rest, same, now))

pub input_not_due : (b : Standing) → NoInputDue b.position → InputDue b.position → ⊥
input_not_due b none (x, rest, same, now) = none 0 x (subst (λ l. At l 0 x) (sym same) refl) now

-- at the horizon no input is still to come, once none is due
pub no_input_left : (b : Standing) → IsStanding b → b.position.at.time ≡ b.plan.horizon → NoInputDue b.position → b.position.inputs ≡ []
no_input_left b is end none = from b.position.inputs is.ahead none (λ i x at. (is.inputs i x at).in_time)
  where
    from : (xs : List StatedInput) → ((i : ℕ) (x : StatedInput) → At xs i x → b.position.at.time ≤ x.at)
        → ((i : ℕ) (x : StatedInput) → At xs i x → x.at ≢ b.position.at.time) → ((i : ℕ) (x : StatedInput) → At xs i x → x.at ≤ b.plan.horizon) → xs ≡ []
    from [] ahead not by = refl
    from (x ∷ xs) ahead not by = (let a = ahead 0 x refl in let d = by 0 x refl in absurd (not 0 x refl (omega (arith, a, d, end))))

pub ended_none_due : (b : Standing) → b.position.inputs ≡ [] → NoInputDue b.position
ended_none_due b none i x at = absurd (none-some x (subst (λ l. At l i x) none at))

pub same_first : (x y : StatedInput) (xs ys : List StatedInput) → x ∷ xs ≡ y ∷ ys → x ≡ y
same_first x y xs ys e = cc
