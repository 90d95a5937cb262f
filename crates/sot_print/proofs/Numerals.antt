-- Digits written one by one.
use Rattle.std.proofs.Common.{◌≡◌, ℕ, suc, ◌+◌, ◌-◌, ◌/◌, ◌%◌, ◌^◌, ◌<◌, ◌∷◌, [], sym, ap, ◌∙◌, arith}
use Rattle.std.proofs.Math.Nat.{div-div-eq-div-mul, pow-succ'}
use Rattle.std.specs.Fmt.{decimal}
use Rattle.std.proofs.lemmas.Fmt.{decimal_digit}

-- one decimal after another
pub shifted : (n k : ℕ) → 0 < k → n / 10 / 10 ^ (k - 1) ≡ n / 10 ^ k
shifted n k some =
    let less : k ≡ suc (k - 1) = omega arith in
    div-div-eq-div-mul n 10 (10 ^ (k - 1)) ∙ ap (λ m. n / m) (sym (pow-succ' 10 (k - 1))) ∙ ap (λ j. n / 10 ^ j) (sym less)

pub one_digit : (n : ℕ) → n < 10 → decimal n ≡ (48 + n % 10) ∷ []
one_digit n low = (let same : n ≡ n % 10 = omega arith in decimal_digit n low ∙ ap (λ m. (48 + m) ∷ []) same)
