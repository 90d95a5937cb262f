-- Steps of the loops that take in the names of a list.
use Rattle.std.proofs.Common.{◌≡◌, ◌∙◌, ℕ, ◌+◌, ◌<◌, ◌≤◌, List, ◌∷◌, length, get_or, drop, map, fold, sym, ap}
use Rattle.std.proofs.lemmas.List.{drop_more, drop_all}
use Rattle.sot_syntax_tree.specs.declared.tree.Ident.{Ident}

-- the rest of a list, from an item on
pub rest_is : {X : Type 0} (xs : List X) (i : ℕ) (x : X) → i < length xs → x ≡ get_or xs i x → drop i xs ≡ x ∷ drop (i + 1) xs
rest_is xs i x lt e = drop_more xs i x lt ∙ ap (λ z. z ∷ drop (i + 1) xs) (sym e)

-- a name is taken in, and then what is left
pub step_names : {X B : Type 0} (f : X → Ident) (add : B → Ident → B) (xs : List X) (i : ℕ) (x : X) (n : Ident) (old new c : B) → i < length xs
    → x ≡ get_or xs i x → n ≡ f x → fold add old (map f (drop i xs)) ≡ c → new ≡ add old n → fold add new (map f (drop (i + 1) xs)) ≡ c
step_names f add xs i x n old new c lt e named inv more =
    ap (λ z. fold add z (map f (drop (i + 1) xs))) (more ∙ ap (add old) named)
    ∙ ap (λ z. fold add old (map f z)) (sym (rest_is xs i x lt e))
    ∙ inv

-- no name is left
pub names_end : {X B : Type 0} (f : X → Ident) (add : B → Ident → B) (xs : List X) (i : ℕ) (old c : B) → length xs ≤ i → fold add old (map f (drop i xs)) ≡ c
    → old ≡ c
names_end f add xs i old c le inv = ap (λ z. fold add old (map f z)) (sym (drop_all i xs le)) ∙ inv
