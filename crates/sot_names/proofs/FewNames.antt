-- Names that are looked at one by one, and those of a table behind them.
use Rattle.std.proofs.Common.{◌≡◌, ◌∙◌, ℕ, ◌+◌, ◌<◌, ◌≤◌, List, [], ◌∷◌, ◌++◌, length, get_or, drop, Bool, true, false, ◌||◌, if◌then◌else◌, refl, sym, ap}
use Rattle.std.proofs.Common.{arith, append-nil, append_assoc}
use Rattle.std.specs.List.{list_any}
use Rattle.std.specs.Str.{bytes_eq}
use Rattle.std.proofs.lemmas.List.{drop_all}
use Rattle.std.proofs.lemmas.List.Folds.{list_any-append}
use denote.Ref.{Bor}
use Rattle.sot_names.proofs.Steps.{rest_is}

pub none_of : {X : Type 0} (xs : List X) → length xs ≡ 0 → xs ≡ []
none_of [] e = refl
none_of (x ∷ xs) e = absurd (omega (arith, e))

-- what is tested of a name that is another
pub tested : (a b x y : List ℕ) (r v : Bool) → r ≡ bytes_eq a b → a ≡ x → b ≡ y → r ≡ v → bytes_eq x y ≡ v
tested a b x y r v e p q h = sym (ap (λ z. bytes_eq z y) p) ∙ sym (ap (bytes_eq a) q) ∙ sym e ∙ h

-- keys, one after another as a loop reads them
pub key_from : (name : List ℕ) (ks : List (Bor (List ℕ))) (i : ℕ) (k : Bor (List ℕ)) (b : Bool) → i < length ks → k ≡ get_or ks i k → bytes_eq name k.now ≡ b
    → list_any (λ (k : Bor (List ℕ)). bytes_eq name k.now) (drop i ks) ≡ (b || list_any (λ (k : Bor (List ℕ)). bytes_eq name k.now) (drop (i + 1) ks))
key_from name ks i k b lt is h =
    ap (list_any (λ (k : Bor (List ℕ)). bytes_eq name k.now)) (rest_is ks i k lt is)
    ∙ ap (λ b. b || list_any (λ (k : Bor (List ℕ)). bytes_eq name k.now) (drop (i + 1) ks)) h

pub key_past : (name : List ℕ) (ks : List (Bor (List ℕ))) (i : ℕ) → length ks ≤ i → list_any (λ (k : Bor (List ℕ)). bytes_eq name k.now) (drop i ks) ≡ false
key_past name ks i le = ap (list_any (λ (k : Bor (List ℕ)). bytes_eq name k.now)) (drop_all i ks le)

-- sets
module _ (name : List ℕ) (few many : List (Bor (List ℕ))) where
  abbrev here : List (Bor (List ℕ)) → Bool
  here ks = list_any (λ (k : Bor (List ℕ)). bytes_eq name k.now) ks

  pub any_both : here (few ++ many) ≡ (here few || here many)
  any_both = list_any-append (λ (k : Bor (List ℕ)). bytes_eq name k.now) few many

  pub any_few : (r : Bool) → r ≡ here few → r ≡ true → true ≡ here (few ++ many)
  any_few r e is = sym (any_both ∙ ap (λ b. b || here many) (sym e ∙ is))

  pub any_many : (r o : Bool) → r ≡ here few → r ≡ false → o ≡ here many → o ≡ here (few ++ many)
  any_many r o e is h = h ∙ sym (any_both ∙ ap (λ b. b || here many) (sym e ∙ is))

  pub any_none : (r : Bool) → r ≡ here few → r ≡ false → length many ≡ 0 → false ≡ here (few ++ many)
  any_none r e is none = any_many r false e is (sym (ap here (none_of many none)))

-- a key that is there already, one of the first few more, and one of the others more
module _ (key : Bor (List ℕ)) (few many : List (Bor (List ℕ))) where
  pub kept_as_is : (r : Bool) → r ≡ here key.now few many few → r ≡ true
      → few ++ many ≡ (if here key.now few many (few ++ many) then few ++ many else (few ++ many) ++ key ∷ [])
  kept_as_is r e is = ap (λ b. if b then few ++ many else (few ++ many) ++ key ∷ []) (any_few key.now few many r e is)

  pub few_longer : (new : List (Bor (List ℕ))) (r : Bool) → r ≡ here key.now few many few → r ≡ false → length many ≡ 0 → new ≡ few ++ key ∷ []
      → new ++ many ≡ (if here key.now few many (few ++ many) then few ++ many else (few ++ many) ++ key ∷ [])
  few_longer new r e is none push =
      let empty : many ≡ [] = none_of many none in
      ap (λ ks. new ++ ks) empty ∙ append-nil new ∙ push
      ∙ ap (λ ks. ks ++ key ∷ []) (sym (ap (λ ks. few ++ ks) empty ∙ append-nil few))
      ∙ ap (λ b. if b then few ++ many else (few ++ many) ++ key ∷ []) (any_none key.now few many r e is none)

  pub many_longer : (new : List (Bor (List ℕ))) (r : Bool) → r ≡ here key.now few many few → r ≡ false
      → new ≡ (if here key.now few many many then many else many ++ key ∷ [])
      → few ++ new ≡ (if here key.now few many (few ++ many) then few ++ many else (few ++ many) ++ key ∷ [])
  many_longer new r e is insert =
      ap (λ ks. few ++ ks) insert
      ∙ by (here key.now few many many)
      ∙ ap (λ b. if b then few ++ many else (few ++ many) ++ key ∷ []) (any_many key.now few many r (here key.now few many many) e is refl)
    where
      by : (b : Bool) → few ++ (if b then many else many ++ key ∷ []) ≡ (if b then few ++ many else (few ++ many) ++ key ∷ [])
      by true = refl
      by false = sym (append_assoc few many (key ∷ []))
