-- Floors of quotients, between those of the ends of an interval.
use Rattle.std.proofs.Common.{◌≡◌, ℕ, zero, suc, ◌+◌, ◌*◌, ◌/◌, ◌-◌, ◌<◌, ◌≤◌, ℤ, pos, negsuc, ◌≤ℤ◌, ◌*ℤ◌, ◌-ℤ◌, ◌⊎◌, inl, inr, ⊎_elim, refl, subst, arith}
use Rattle.std.specs.Prelude.{neg_ℤ}
use Rattle.std.proofs.lemmas.Int.{ints}
use Rattle.std.proofs.lemmas.Nat.{le-div}
use Rattle.std.proofs.Math.Nat.{div-mul-le_self, mul-le-mul_right, pow-suc}
use borrow.Author.Differences.{up, down}
use Rattle.sot_lang.specs.Values.{floor_by, floor_div}
use Rattle.sot_iv.specs.Ends.{times_ten, scaled_to}

-- a number is between two others, in one order or the other
abbrev pub Among : ℤ → ℤ → ℤ → Type 0
Among u v z = ((u ≤ℤ z) × (z ≤ℤ v)) ⊎ ((v ≤ℤ z) × (z ≤ℤ u))

div_mono : (a b k : ℕ) → 0 < k → a ≤ b → a / k ≤ b / k
div_mono a b k p h = (let m = div-mul-le_self a k in le-div (a / k) b k p (omega (arith, m, h)))

div_anti : (a k l : ℕ) → 0 < k → k ≤ l → a / l ≤ a / k
div_anti a k l p h =
    let m = div-mul-le_self a l in
    let n : k * (a / l) ≤ l * (a / l) = mul-le-mul_right (a / l) h in
    le-div (a / l) a k p (omega (arith, m, n))

pub floor_mono : (a b : ℤ) (k : ℕ) → 0 < k → a ≤ℤ b → floor_by a k ≤ℤ floor_by b k
floor_mono (pos a) (pos b) k p h = (let m = div_mono a b k p (omega (arith, ints, h)) in omega (arith, ints, m))
floor_mono (pos a) (negsuc b) k p h = absurd (omega (arith, ints, h))
floor_mono (negsuc a) (pos b) k p h = omega (arith, ints)
floor_mono (negsuc a) (negsuc b) k p h = (let m = div_mono b a k p (omega (arith, ints, h)) in omega (arith, ints, m))

neg_mono : (a b : ℤ) → a ≤ℤ b → neg_ℤ b ≤ℤ neg_ℤ a
neg_mono a b h = omega (arith, ints, h)

-- with one divisor
pub among_dividends : (lo hi a k : ℤ) → (k ≡ pos 0 → ⊥) → lo ≤ℤ a → a ≤ℤ hi → Among (floor_div lo k) (floor_div hi k) (floor_div a k)
among_dividends lo hi a (pos zero) ne l h = absurd (ne refl)
among_dividends lo hi a (pos (suc n)) ne l h = inl (floor_mono lo a (suc n) (omega arith) l, floor_mono a hi (suc n) (omega arith) h)
among_dividends lo hi a (negsuc n) ne l h =
    inr (floor_mono (neg_ℤ hi) (neg_ℤ a) (suc n) (omega arith) (neg_mono a hi h), floor_mono (neg_ℤ a) (neg_ℤ lo) (suc n) (omega arith) (neg_mono lo a l))

among_above : (a : ℤ) (k m l : ℕ) → 0 < k → k ≤ m → m ≤ l → Among (floor_by a k) (floor_by a l) (floor_by a m)
among_above (pos a) k m l p h i =
    (let x = div_anti a k m p h in let y = div_anti a m l (omega (arith, p, h)) i in inr (omega (arith, ints, y), omega (arith, ints, x)))
among_above (negsuc a) k m l p h i =
    (let x = div_anti a k m p h in let y = div_anti a m l (omega (arith, p, h)) i in inl (omega (arith, ints, x), omega (arith, ints, y)))

among_swap : (u v z : ℤ) → Among u v z → Among v u z
among_swap u v z h = ⊎_elim (λ x. inr x) (λ x. inl x) h

-- with one dividend, and divisors of one sign
pub among_divisors : (a lo hi k : ℤ) → (pos 1 ≤ℤ lo) ⊎ (hi ≤ℤ negsuc 0) → lo ≤ℤ k → k ≤ℤ hi → Among (floor_div a lo) (floor_div a hi) (floor_div a k)
among_divisors a (pos l) (pos h) (pos n) s p q =
    ⊎_elim (λ t. among_above a l n h (omega (arith, ints, t)) (omega (arith, ints, p)) (omega (arith, ints, q))) (λ f. absurd (omega (arith, ints, f))) s
among_divisors a (negsuc l) (negsuc h) (negsuc n) s p q =
    among_swap _ _ _ (among_above (neg_ℤ a) (suc h) (suc n) (suc l) (omega arith) (omega (arith, ints, q)) (omega (arith, ints, p)))
among_divisors a (pos l) (negsuc h) k s p q = absurd (omega (arith, ints, p, q))
among_divisors a (negsuc l) (pos h) k s p q = ⊎_elim (λ t. absurd (omega (arith, ints, t))) (λ f. absurd (omega (arith, ints, f))) s
among_divisors a (pos l) (pos h) (negsuc n) s p q = absurd (omega (arith, ints, p))
among_divisors a (negsuc l) (negsuc h) (pos n) s p q = absurd (omega (arith, ints, q))

mono_nat : (a b c d k : ℕ) → a + d ≤ b + c → a * k + d * k ≤ b * k + c * k
mono_nat a b c d k h = let m : (a + d) * k ≤ (b + c) * k = mul-le-mul_right k h in omega arith

-- products with one factor
pub times_mono : (a b k : ℤ) → a ≤ℤ b → pos 0 ≤ℤ k → (a *ℤ k) ≤ℤ (b *ℤ k)
times_mono a b (pos k) h p =
    let m = mono_nat (up a) (up b) (down a) (down b) k (omega (arith, ints)) in
    omega (arith, ints)
times_mono a b (negsuc k) h p = absurd (omega (arith, ints))

times_anti : (a b k : ℤ) → a ≤ℤ b → k ≤ℤ pos 0 → (b *ℤ k) ≤ℤ (a *ℤ k)
times_anti a b (pos k) h p =
    let z : k ≡ 0 = omega (arith, ints) in
    rw z (omega (arith, ints))
times_anti a b (negsuc k) h p =
    let m = mono_nat (up a) (up b) (down a) (down b) (suc k) (omega (arith, ints)) in
    omega (arith, ints)

cases_sign : (k : ℤ) → (pos 0 ≤ℤ k) ⊎ (k ≤ℤ pos 0)
cases_sign (pos k) = inl (omega (arith, ints))
cases_sign (negsuc k) = inr (omega (arith, ints))

pub among_products : (lo hi a k : ℤ) → lo ≤ℤ a → a ≤ℤ hi → Among (lo *ℤ k) (hi *ℤ k) (a *ℤ k)
among_products lo hi a k l h =
    ⊎_elim
    (λ p. inl (times_mono lo a k l p, times_mono a hi k h p))
    (λ n. inr (times_anti a hi k h n, times_anti lo a k l n))
    (cases_sign k)

product_comm : (a b : ℤ) → a *ℤ b ≡ b *ℤ a
product_comm a b = omega (arith, ints)

pub among_factors : (a lo hi k : ℤ) → lo ≤ℤ k → k ≤ℤ hi → Among (a *ℤ lo) (a *ℤ hi) (a *ℤ k)
among_factors a lo hi k l h = rw (product_comm a lo, product_comm a hi, product_comm a k) (among_products lo hi k a l h)

-- rests of two numbers with one floor quotient
pub rests_ordered : (a b by q r : ℤ) → a ≤ℤ b → q ≡ r → (a -ℤ (by *ℤ q)) ≤ℤ (b -ℤ (by *ℤ r))
rests_ordered a b by q r h e = subst (λ x. (a -ℤ (by *ℤ q)) ≤ℤ (b -ℤ (by *ℤ x))) e (omega (arith, ints, h))

floor_same : (a b by : ℤ) → pos 1 ≤ℤ by → a ≤ℤ b → floor_div b by ≤ℤ floor_div a by → floor_div a by ≡ floor_div b by
floor_same a b (pos zero) p h le = absurd (omega (arith, ints, p))
floor_same a b (pos (suc n)) p h le = (let m = floor_mono a b (suc n) (omega arith) h in omega (arith, ints, m, le))
floor_same a b (negsuc n) p h le = absurd (omega (arith, ints, p))

pub rests_in_order : (a b by : ℤ) → pos 1 ≤ℤ by → a ≤ℤ b → floor_div b by ≤ℤ floor_div a by → (a -ℤ (by *ℤ floor_div a by)) ≤ℤ (b -ℤ (by *ℤ floor_div b by))
rests_in_order a b by p h le = rests_ordered a b by (floor_div a by) (floor_div b by) h (floor_same a b by p h le)

pub ten_pos : (n : ℕ) → 0 < times_ten n
ten_pos zero = omega arith
ten_pos (suc n) = (let m = ten_pos n in rw (pow-suc 10 n) (omega (arith, m)))

pub ten_not_zero : (n : ℕ) → pos (times_ten n) ≡ pos 0 → ⊥
ten_not_zero n e = (let m = ten_pos n in let z : times_ten n ≡ 0 = cc in omega (arith, m, z))

pub scaled_mono : (from to : ℕ) (a b : ℤ) → a ≤ℤ b → scaled_to from to a ≤ℤ scaled_to from to b
scaled_mono from to a b h = floor_mono _ _ (times_ten (from - to)) (ten_pos (from - to)) (times_mono a b (pos (times_ten (to - from))) h (omega (arith, ints)))
