-- Texts that are cut where a class of bytes ends.
use Rattle.std.proofs.Common.{◌≡◌, ℕ, Bool, true, false, ◌&&◌, List, [], ◌∷◌, ◌++◌, inl, inr, refl, sym, ap, ◌∙◌, drop}
use Rattle.std.specs.List.{list_all}
use Rattle.std.proofs.lemmas.Bool.{cases_Bool}

-- each byte of a text is in the class
abbrev pub AllIn : (ℕ → Bool) → List ℕ → Type 0
AllIn q [] = Unit {0}
AllIn q (x ∷ xs) = (q x ≡ true) × AllIn q xs

-- a text does not go on with the class
abbrev pub Stops : (ℕ → Bool) → List ℕ → Type 0
Stops q [] = Unit {0}
Stops q (x ∷ xs) = q x ≡ false

pub both_in : (q : ℕ → Bool) (a b : List ℕ) → AllIn q a → AllIn q b → AllIn q (a ++ b)
both_in q [] b h k = k
both_in q (x ∷ a) b h k = (h.0, both_in q a b h.1 k)

pub in_wider : (q r : ℕ → Bool) → ((x : ℕ) → q x ≡ true → r x ≡ true) → (a : List ℕ) → AllIn q a → AllIn r a
in_wider q r wider [] h = tt
in_wider q r wider (x ∷ a) h = (wider x h.0, in_wider q r wider a h.1)

pub in_from_test : (q : ℕ → Bool) (a : List ℕ) → list_all q a ≡ true → AllIn q a
in_from_test q [] h = tt
in_from_test q (x ∷ a) h =
    elim (cases_Bool (q x)) [
      | inl yes' ↦ (yes', in_from_test q a (sym (ap (λ b. b && list_all q a) yes') ∙ h))
      | inr no' ↦ (let never : false ≡ true = sym (ap (λ b. b && list_all q a) no') ∙ h in absurd cc)
    ]

-- the class tells where the first of two pieces ends
pub cut_same : (q : ℕ → Bool) (a b x y : List ℕ) → AllIn q a → AllIn q b → Stops q x → Stops q y → a ++ x ≡ b ++ y → (a ≡ b) × (x ≡ y)
cut_same q [] [] x y in_a in_b sx sy e = (refl, e)
cut_same q [] (b ∷ bs) [] y in_a in_b sx sy e = absurd cc
cut_same q [] (b ∷ bs) (c ∷ x) y in_a in_b sx sy e = (let same : c ≡ b = cc in let never : false ≡ true = sym sx ∙ ap q same ∙ in_b.0 in absurd cc)
cut_same q (a ∷ as_) [] x [] in_a in_b sx sy e = absurd cc
cut_same q (a ∷ as_) [] x (c ∷ y) in_a in_b sx sy e = (let same : a ≡ c = cc in let never : true ≡ false = sym in_a.0 ∙ ap q same ∙ sy in absurd cc)
cut_same q (a ∷ as_) (b ∷ bs) x y in_a in_b sx sy e =
    let rest = cut_same q as_ bs x y in_a.1 in_b.1 sx sy (ap (drop 1) e) in
    let first : a ≡ b = cc in
    (cc (first, rest.0), rest.1)
