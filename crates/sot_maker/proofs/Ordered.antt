-- Numbers in the byte order of their names, one after another.
use Rattle.std.proofs.Common.{◌≡◌, ℕ, suc, ◌+◌, ◌*◌, ◌-◌, ◌<◌, ◌≤◌, Bool, List, [], ◌∷◌, ◌++◌, sym, ap, ◌∙◌, append_assoc, arith}
use Rattle.std.specs.Prelude.{nat_lt}
use Rattle.std.specs.List.{filter, flat_map}
use Rattle.std.proofs.lemmas.List.{append-nil}
use Rattle.std.proofs.lemmas.List.Elements.{filter-append}
use Rattle.sot_maker.specs.NameOrder.{numbers_from, led_by, all_by_name, by_name}

-- a number, and then the next ones
numbers_more : (first k n : ℕ) → k < n → numbers_from first (n - k) ≡ first ∷ numbers_from (first + 1) (n - (k + 1))
unfolding numbers_from
numbers_more first k n lt =
    let e : n - k ≡ suc (n - (k + 1)) = omega arith in
    let s : suc first ≡ first + 1 = omega arith in
    rw e (ap (λ m. first ∷ numbers_from m (n - (k + 1))) s)

-- what stands there, and then what is left, stays the same
pub number_more : (test : ℕ → Bool) (first k n : ℕ) (before after whole : List ℕ) → k < n → after ≡ before ++ filter test ((first + k) ∷ [])
    → before ++ filter test (numbers_from (first + k) (n - k)) ≡ whole → after ++ filter test (numbers_from (first + (k + 1)) (n - (k + 1))) ≡ whole
number_more test first k n before after whole lt more is =
    let e : first + (k + 1) ≡ (first + k) + 1 = omega arith in
    let rest = numbers_from ((first + k) + 1) (n - (k + 1)) in
    ap (λ m. after ++ filter test (numbers_from m (n - (k + 1)))) e
    ∙ ap (λ z. z ++ filter test rest) more
    ∙ append_assoc before (filter test ((first + k) ∷ [])) (filter test rest)
    ∙ ap (λ z. before ++ z) (sym (filter-append test ((first + k) ∷ []) rest))
    ∙ ap (λ ks. before ++ filter test ks) (sym (numbers_more (first + k) k n lt)) ∙ is

pub digit_more : (test : ℕ → Bool) (d : ℕ) (before after whole : List ℕ) → d < 10 → after ≡ before ++ filter test (led_by d)
    → before ++ filter test (flat_map led_by (numbers_from d (10 - d))) ≡ whole
    → after ++ filter test (flat_map led_by (numbers_from (d + 1) (10 - (d + 1)))) ≡ whole
digit_more test d before after whole lt more is =
    let rest = flat_map led_by (numbers_from (d + 1) (10 - (d + 1))) in
    ap (λ z. z ++ filter test rest) more
    ∙ append_assoc before (filter test (led_by d)) (filter test rest)
    ∙ ap (λ z. before ++ z) (sym (filter-append test (led_by d) rest))
    ∙ ap (λ ks. before ++ filter test (flat_map led_by ks)) (sym (numbers_more d d 10 lt)) ∙ is

-- all that is left is none
pub led_all : (test : ℕ → Bool) (d k : ℕ) (before led after : List ℕ) → 10 ≤ k → led ≡ before ++ filter test (d ∷ [])
    → after ++ filter test (numbers_from (10 * d + k) (10 - k)) ≡ led ++ filter test (numbers_from (10 * d) 10) → after ≡ before ++ filter test (led_by d)
unfolding numbers_from
led_all test d k before led after past first is =
    let e : 10 - k ≡ 0 = omega arith in
    let none : after ++ [] ≡ led ++ filter test (numbers_from (10 * d) 10) = rw e at is in
    sym (append-nil after) ∙ none ∙ ap (λ z. z ++ filter test (numbers_from (10 * d) 10)) first
    ∙ append_assoc before (filter test (d ∷ [])) (filter test (numbers_from (10 * d) 10))
    ∙ ap (λ z. before ++ z) (sym (filter-append test (d ∷ []) (numbers_from (10 * d) 10)))

pub zero_first : (n : ℕ) (none first : List ℕ) → none ≡ [] → first ≡ none ++ filter (λ k. nat_lt k n) (0 ∷ [])
    → first ++ filter (λ k. nat_lt k n) (flat_map led_by (numbers_from 1 (10 - 1))) ≡ by_name n
unfolding by_name all_by_name
zero_first n none first empty is =
    let rest = flat_map led_by (numbers_from 1 9) in
    ap (λ z. z ++ filter (λ k. nat_lt k n) rest) (is ∙ ap (λ z. z ++ filter (λ k. nat_lt k n) (0 ∷ [])) empty)
    ∙ sym (filter-append (λ k. nat_lt k n) (0 ∷ []) rest)

pub digits_all : (test : ℕ → Bool) (d : ℕ) (after whole : List ℕ) → 10 ≤ d → after ++ filter test (flat_map led_by (numbers_from d (10 - d))) ≡ whole
    → after ≡ whole
unfolding numbers_from
digits_all test d after whole past is =
    let e : 10 - d ≡ 0 = omega arith in
    let none : after ++ [] ≡ whole = rw e at is in
    sym (append-nil after) ∙ none
