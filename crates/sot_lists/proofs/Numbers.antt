-- Two numbers, one by one.
use Rattle.std.proofs.Common.{◌≡◌, ℕ, ◌<◌, ⊎_elim, arith}
use Rattle.std.proofs.lemmas.Bool.{cases_lt}

-- of two numbers one is less, or they are one
pub by_order : {P : Type 0} (m n : ℕ) → (m < n → P) → (n < m → P) → (m ≡ n → P) → P
by_order m n less more same = ⊎_elim less (λ le. ⊎_elim more (λ ge. same (omega arith)) (cases_lt n m)) (cases_lt m n)
