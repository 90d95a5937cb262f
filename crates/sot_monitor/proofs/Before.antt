-- Moments more change nothing before them.
use Rattle.std.proofs.Common.{◌≡◌, ℕ, zero, suc, ◌<◌, ◌↔◌, inl, inr, ⊎_elim, List, [], ◌∷◌, ◌++◌, length, refl, arith}
use Rattle.sot_lists.specs.Places.{At}
use Rattle.sot_lists.proofs.Places.{at_front, at_in_front}
use Rattle.sot_formula.specs.Formulas.{Formula, Truth, Compared, Against, Paired, Not, And, Or, Implies, Once, Always, Since, Within}
use Rattle.sot_monitor.specs.Holding.{Moment, Holds}

pub at_end : {A : Type 0} (xs : List A) (x : A) → At (xs ++ x ∷ []) (length xs) x
at_end [] x = refl
at_end (y ∷ xs) x = at_end xs x

pub length_end : {A : Type 0} (xs : List A) (x : A) → length (xs ++ x ∷ []) ≡ suc (length xs)
length_end [] x = refl
length_end (y ∷ xs) x = (let e = length_end xs x in omega (arith, e))

module _ (Ms more : List Moment) where
  pub before : (f : Formula) (i : ℕ) → i < length Ms → Holds (Ms ++ more) f i ↔ Holds Ms f i
  before (Truth value) i lt = (λ h. h, λ h. h)
  before (Compared of by number) i lt = (λ h. (h.0, at_in_front Ms more i h.0 lt h.1, h.2), λ h. (h.0, at_front Ms more i h.0 h.1, h.2))
  before (Against of by other) i lt = (λ h. (h.0, at_in_front Ms more i h.0 lt h.1, h.2), λ h. (h.0, at_front Ms more i h.0 h.1, h.2))
  before (Paired first pairing second by number) i lt =
      (λ h. (h.0, at_in_front Ms more i h.0 lt h.1, h.2), λ h. (h.0, at_front Ms more i h.0 h.1, h.2))
  before (Not f) i lt = (λ h x. h ((before f i lt).1 x), λ h x. h ((before f i lt).0 x))
  before (And f g) i lt = (λ h. ((before f i lt).0 h.0, (before g i lt).0 h.1), λ h. ((before f i lt).1 h.0, (before g i lt).1 h.1))
  before (Or f g) i lt = (
    λ h. ⊎_elim (λ a. inl ((before f i lt).0 a)) (λ b. inr ((before g i lt).0 b)) h,
    λ h. ⊎_elim (λ a. inl ((before f i lt).1 a)) (λ b. inr ((before g i lt).1 b)) h,
  )
  before (Implies f g) i lt =
      (λ h x. (before g i lt).0 (h ((before f i lt).1 x)), λ h x. (before g i lt).1 (h ((before f i lt).0 x)))
  before (Always f) i lt =
      (λ h j le. (before f j (omega (arith, lt, le))).0 (h j le), λ h j le. (before f j (omega (arith, lt, le))).1 (h j le))
  before (Once f) i lt = (λ h. (h.0, h.1, (before f h.0 (omega (arith, lt, h.1))).0 h.2), λ h. (h.0, h.1, (before f h.0 (omega (arith, lt, h.1))).1 h.2))
  before (Since f g) i lt = (
    λ h. (h.0, h.1, (before g h.0 (omega (arith, lt, h.1))).0 h.2, λ k after le. (before f k (omega (arith, lt, le))).0 (h.3 k after le)),
    λ h. (h.0, h.1, (before g h.0 (omega (arith, lt, h.1))).1 h.2, λ k after le. (before f k (omega (arith, lt, le))).1 (h.3 k after le)),
  )
  before (Within ticks f) i lt =
      (λ h. (h.0, h.1, h.2, (before f h.0 (omega (arith, lt, h.1))).0 h.3), λ h. (h.0, h.1, h.2, (before f h.0 (omega (arith, lt, h.1))).1 h.3))
