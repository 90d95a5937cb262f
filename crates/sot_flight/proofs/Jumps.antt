-- A jump by many words is one multiplication and one addition.
use Rattle.std.proofs.Common.{◌≡◌, ℕ, zero, suc, ◌+◌, ◌-◌, ◌*◌, ◌%◌, ◌^◌, ◌<◌, ◌≤◌, ◌==◌, ◌&&◌, Bool, true, refl, sym, ap, subst, ◌∙◌, inl, inr, arith}
use Rattle.std.proofs.Common.{eq-zero-or-pos}
use Rattle.std.specs.Prelude.{slice_index_or}
use Rattle.std.proofs.lemmas.Bool.{and_parts}
use Rattle.std.proofs.lemmas.Bool.Decides.{nat_tests}
use Rattle.std.proofs.lemmas.Nat.{mul-mod_first, mul-mod_second}
use native.Mathlib.Nat.{mod-add-mod, add-mod, mod-eq_of_lt}
use Rattle.rand_pcg.specs.Lcg.{next_state, state_after}
use Rattle.rand_pcg.specs.Pcg.{multiplier_64}
use Rattle.sot_random_words.proofs.Words.{state_more}
use Rattle.sot_flight.specs.declared.few_words.TheConstants.{JUMPS}
use Rattle.sot_flight.specs.Jumps.{power, sums, IsJump, IsListed}

-- one step more, as a multiplication and an addition
step_more : (w m p a b s : ℕ) → next_state w m p ((s * a + p * b) % 2 ^ w) ≡ (s * (a * m) + p * (b * m + 1)) % 2 ^ w
step_more w m p a b s =
    let M = 2 ^ w in
    let same : (s * a + p * b) * m + p ≡ s * (a * m) + p * (b * m + 1) = omega arith in
    ap (λ (n : ℕ). (n + p) % M) (mul-mod_first (s * a + p * b) m M) ∙ mod-add-mod ((s * a + p * b) * m) M p ∙ ap (λ (n : ℕ). n % M) same

-- the state after some steps
pub jumped : (w m p n s : ℕ) → s < 2 ^ w → state_after w m p n s ≡ (s * power m n + p * sums m n) % 2 ^ w
unfolding state_after power sums
jumped w m p zero s small =
    let same : s * 1 + p * 0 ≡ s = omega arith in
    sym (ap (λ (n : ℕ). n % 2 ^ w) same ∙ mod-eq_of_lt small)
jumped w m p (suc n) s small =
    sym (state_more w m p n s) ∙ ap (next_state w m p) (jumped w m p n s small) ∙ step_more w m p (power m n) (sums m n) s

-- what is left of a difference
difference : (a b : ℕ) → ((a + b) % 2 ^ 64 + (2 ^ 64 - b % 2 ^ 64)) % 2 ^ 64 ≡ a % 2 ^ 64
difference a b = omega arith

-- the numbers of a jump, read off two generators
pub is_jump : (n by more : ℕ) → more ≡ state_after 64 multiplier_64 1 n 0 → by ≡ (state_after 64 multiplier_64 1 n 1 + (2 ^ 64 - more)) % 2 ^ 64
    → IsJump n by more
is_jump n by more none one =
    let a = power multiplier_64 n in
    let b = sums multiplier_64 n in
    let below_none : 0 < 2 ^ 64 = omega arith in
    let below_one : 1 < 2 ^ 64 = omega arith in
    let spread_none : 0 * a + 1 * b ≡ b = omega arith in
    let spread_one : 1 * a + 1 * b ≡ a + b = omega arith in
    let sum : more ≡ b % 2 ^ 64 = none ∙ jumped 64 multiplier_64 1 n 0 below_none ∙ ap (λ (k : ℕ). k % 2 ^ 64) spread_none in
    let both : state_after 64 multiplier_64 1 n 1 ≡ (a + b) % 2 ^ 64 = jumped 64 multiplier_64 1 n 1 below_one ∙ ap (λ (k : ℕ). k % 2 ^ 64) spread_one in
    (one ∙ ap (λ (k : ℕ). (k + (2 ^ 64 - more)) % 2 ^ 64) both ∙ ap (λ (k : ℕ). ((a + b) % 2 ^ 64 + (2 ^ 64 - k)) % 2 ^ 64) sum ∙ difference a b, sum)

-- where a jump leads
pub jump_leads : (n by more p s : ℕ) → IsJump n by more → s < 2 ^ 64 → (s * by % 2 ^ 64 + p * more % 2 ^ 64) % 2 ^ 64 ≡ state_after 64 multiplier_64 p n s
jump_leads n by more p s is small =
    let M = 2 ^ 64 in
    let a = power multiplier_64 n in
    let b = sums multiplier_64 n in
    sym (jumped 64 multiplier_64 p n s small ∙ add-mod (s * a) (p * b) M
    ∙ ap (λ (k : ℕ). (k + p * b % M) % M) (sym (mul-mod_second s a M) ∙ ap (λ (k : ℕ). s * k % M) (sym is.0))
    ∙ ap (λ (k : ℕ). (s * by % M + k) % M) (sym (mul-mod_second p b M) ∙ ap (λ (k : ℕ). p * k % M) (sym is.1)))

-- jumps one after another are one
power_sum : (m a b : ℕ) → power m (a + b) ≡ power m a * power m b
unfolding power
power_sum m a zero = (let same : a + 0 ≡ a = omega arith in let one : power m a * 1 ≡ power m a = omega arith in ap (power m) same ∙ sym one)
power_sum m a (suc b) =
    let next : a + suc b ≡ suc (a + b) = omega arith in
    let same : power m a * power m b * m ≡ power m a * (power m b * m) = omega arith in
    ap (power m) next ∙ ap (λ (k : ℕ). k * m) (power_sum m a b) ∙ same

sums_sum : (m a b : ℕ) → sums m (a + b) ≡ sums m a * power m b + sums m b
unfolding power sums
sums_sum m a zero = (let same : a + 0 ≡ a = omega arith in let one : sums m a * 1 + 0 ≡ sums m a = omega arith in ap (sums m) same ∙ sym one)
sums_sum m a (suc b) =
    let next : a + suc b ≡ suc (a + b) = omega arith in
    let same : (sums m a * power m b + sums m b) * m + 1 ≡ sums m a * (power m b * m) + (sums m b * m + 1) = omega arith in
    ap (sums m) next ∙ ap (λ (k : ℕ). k * m + 1) (sums_sum m a b) ∙ same

both_left : (a b x y : ℕ) → x ≡ a % 2 ^ 64 → y ≡ b % 2 ^ 64 → x * y % 2 ^ 64 ≡ a * b % 2 ^ 64
both_left a b x y first second =
    let M = 2 ^ 64 in
    ap (λ (k : ℕ). k * y % M) first ∙ mul-mod_first a y M ∙ ap (λ (k : ℕ). a * k % M) second ∙ mul-mod_second a b M

pub jump_sum : (a b p q s t : ℕ) → IsJump a p s → IsJump b q t → IsJump (a + b) (p * q % 2 ^ 64) ((s * q % 2 ^ 64 + t) % 2 ^ 64)
jump_sum a b p q s t first second =
    let M = 2 ^ 64 in
    let m = multiplier_64 in (
      both_left (power m a) (power m b) p q first.0 second.0 ∙ ap (λ (k : ℕ). k % M) (sym (power_sum m a b)),
      ap (λ (k : ℕ). (k + t) % M) (both_left (sums m a) (power m b) s q first.1 second.0) ∙ ap (λ (k : ℕ). (sums m a * power m b % M + k) % M) second.1
          ∙ sym (add-mod (sums m a * power m b) (sums m b) M) ∙ ap (λ (k : ℕ). k % M) (sym (sums_sum m a b)),
    )

-- the jump by no word, and by one
no_jump : IsJump 0 1 0
unfolding power sums
no_jump = (refl, refl)

one_jump : IsJump 1 multiplier_64 1
unfolding power sums
one_jump = (refl, refl)

-- the table: each entry but the first of a level is the one before it, and then a jump by the level's unit
abbrev by_at : ℕ → ℕ
by_at place = slice_index_or JUMPS (2 * place) 0

abbrev more_at : ℕ → ℕ
more_at place = slice_index_or JUMPS (2 * place + 1) 0

abbrev follows : ℕ → ℕ → ℕ → Bool
follows by more place = (by_at (suc place) == by_at place * by % 2 ^ 64) && (more_at (suc place) == (more_at place * by % 2 ^ 64 + more) % 2 ^ 64)

abbrev all_follow : ℕ → ℕ → ℕ → ℕ → Bool
all_follow by more first zero = true
all_follow by more first (suc n) = follows by more (first + n) && all_follow by more first n

same_number : (a b : ℕ) → (a == b) ≡ true → a ≡ b
same_number a b is = grind (arith, nat_tests)

level : (unit by more first n : ℕ) → IsJump unit by more → IsListed first 0 → all_follow by more first n ≡ true → (c : ℕ) → c ≤ n
    → IsListed (first + c) (c * unit)
level unit by more first n jump none all zero le =
    let same : first + 0 ≡ first = omega arith in
    let nothing : 0 * unit ≡ 0 = omega arith in
    subst (λ k. IsListed (first + 0) k) (sym nothing) (subst (λ k. IsListed k 0) (sym same) none)
level unit by more first zero jump none all (suc c) le = absurd (omega (arith, le))
level unit by more first (suc n) jump none all (suc c) le =
    let parts = and_parts (follows by more (first + n)) (all_follow by more first n) all in
    elim (eq-zero-or-pos (n - c)) [
      | inl last ↦
          let same : n ≡ c = omega (arith, last, le) in
          let before = level unit by more first n jump none parts.1 c (omega (arith, le)) in
          let here = subst (λ k. follows by more (first + k) ≡ true) same parts.0 in
          let both = and_parts (by_at (suc (first + c)) == by_at (first + c) * by % 2 ^ 64)
          (more_at (suc (first + c)) == (more_at (first + c) * by % 2 ^ 64 + more) % 2 ^ 64) here in
          let next = jump_sum (c * unit) unit (by_at (first + c)) by (more_at (first + c)) more before jump in
          let place : first + suc c ≡ suc (first + c) = omega arith in
          let count : suc c * unit ≡ c * unit + unit = omega arith in
          let by_is : by_at (suc (first + c)) ≡ by_at (first + c) * by % 2 ^ 64 = same_number _ _ both.0 in
          let more_is : more_at (suc (first + c)) ≡ (more_at (first + c) * by % 2 ^ 64 + more) % 2 ^ 64 = same_number _ _ both.1 in
          let there : IsListed (suc (first + c)) (c * unit + unit) = (by_is ∙ next.0, more_is ∙ next.1) in
          subst (λ k. IsListed k (suc c * unit)) (sym place) (subst (λ k. IsListed (suc (first + c)) k) (sym count) there)
      | inr some ↦ level unit by more first n jump none parts.1 (suc c) (omega (arith, some, le))
    ]

pub ones_listed : (c : ℕ) → c < 16 → IsListed c c
ones_listed c few =
    let there = level 1 multiplier_64 1 0 15 one_jump no_jump refl c (omega (arith, few)) in
    let place : 0 + c ≡ c = omega arith in
    let same : c * 1 ≡ c = omega arith in
    subst (λ k. IsListed c k) same (subst (λ k. IsListed k (c * 1)) place there)

-- the units of the next levels
unit_16 : IsJump 16 (by_at 17) (more_at 17)
unit_16 = (let last = ones_listed 15 (omega arith) in jump_sum 15 1 (by_at 15) multiplier_64 (more_at 15) 1 last one_jump)

pub more_listed : (c : ℕ) → c < 16 → IsListed (16 + c) (c * 16)
more_listed c few = level 16 (by_at 17) (more_at 17) 16 15 unit_16 no_jump refl c (omega (arith, few))

unit_256 : IsJump 256 (by_at 33) (more_at 33)
unit_256 = (let last = more_listed 15 (omega arith) in jump_sum 240 16 (by_at 31) (by_at 17) (more_at 31) (more_at 17) last unit_16)

pub most_listed : (c : ℕ) → c < 16 → IsListed (32 + c) (c * 256)
most_listed c few = level 256 (by_at 33) (more_at 33) 32 15 unit_256 no_jump refl c (omega (arith, few))
