-- Numbers that are put one after another.
use Rattle.std.proofs.Common.{◌≡◌, ◌∙◌, ℕ, suc, ◌+◌, ◌-◌, ◌<◌, ◌≤◌, List, [], ◌∷◌, ◌++◌, sym, ap, append_assoc, arith}
use Rattle.std.proofs.lemmas.List.{append-nil}
use Rattle.sot_typing.specs.Resolved.{counted_from}

-- the first of those that are left
counted_next : (first n i : ℕ) → i < n → counted_from (first + i) (n - i) ≡ (first + i) ∷ counted_from (first + (i + 1)) (n - (i + 1))
counted_next first n i lt =
    let left : n - i ≡ suc (n - (i + 1)) = omega arith in
    let next : suc (first + i) ≡ first + (i + 1) = omega arith in
    ap (counted_from (first + i)) left ∙ ap (λ a. (first + i) ∷ counted_from a (n - (i + 1))) next

-- one is put, and then those that are left
pub step_counted : {Y : Type 0} (all_of : List ℕ → List Y) (one_of : ℕ → Y) → ((x : ℕ) (xs : List ℕ) → all_of (x ∷ xs) ≡ one_of x ∷ all_of xs)
    → (first n i : ℕ) (out more all : List Y) → i < n → more ≡ out ++ one_of (first + i) ∷ [] → out ++ all_of (counted_from (first + i) (n - i)) ≡ all
    → more ++ all_of (counted_from (first + (i + 1)) (n - (i + 1))) ≡ all
step_counted all_of one_of shape first n i out more all lt pushed inv =
    let rest = all_of (counted_from (first + (i + 1)) (n - (i + 1))) in
    ap (λ z. z ++ rest) pushed
    ∙ append_assoc out (one_of (first + i) ∷ []) rest
    ∙ sym (ap (λ z. out ++ all_of z) (counted_next first n i lt) ∙ ap (λ z. out ++ z) (shape (first + i) (counted_from (first + (i + 1)) (n - (i + 1)))))
    ∙ inv

-- none is left
pub none_counted : {Y : Type 0} (all_of : List ℕ → List Y) → all_of [] ≡ [] → (first n i : ℕ) (out all : List Y) → n ≤ i
    → out ++ all_of (counted_from (first + i) (n - i)) ≡ all → out ≡ all
none_counted all_of none first n i out all le inv =
    let left : n - i ≡ 0 = omega arith in
    sym (append-nil out)
    ∙ ap (λ z. out ++ z) (sym none)
    ∙ ap (λ k. out ++ all_of (counted_from (first + i) k)) (sym left)
    ∙ inv
