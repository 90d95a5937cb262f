-- Names that were seen, as the keys of a set.
use Rattle.std.proofs.Common.{◌≡◌, ◌∙◌, ℕ, List, [], ◌∷◌, ◌++◌, Bool, true, false, ◌||◌, if◌then◌else◌, refl, ap}
use Rattle.std.specs.List.{list_any}
use Rattle.std.specs.Str.{bytes_eq}
use denote.Ref.{Bor}
use Rattle.sot_syntax_tree.specs.declared.tree.Ident.{Ident}
use Rattle.sot_names.specs.SeenNames.{seen_names, with_name}

pub any_seen : (name : List ℕ) (keys : List (Bor (List ℕ)))
    → list_any (λ (k : Bor (List ℕ)). bytes_eq name k.now) keys ≡ list_any (bytes_eq name) (seen_names keys)
any_seen name [] = refl
any_seen name (k ∷ keys) = ap (λ b. bytes_eq name k.now || b) (any_seen name keys)

seen_more : (keys : List (Bor (List ℕ))) (k : Bor (List ℕ)) → seen_names (keys ++ k ∷ []) ≡ seen_names keys ++ k.now ∷ []
seen_more [] k = refl
seen_more (x ∷ keys) k = ap (λ (l : List (List ℕ)). x.now ∷ l) (seen_more keys k)

by : (b : Bool) (keys : List (Bor (List ℕ))) (k : Bor (List ℕ))
    → seen_names (if b then keys else keys ++ k ∷ []) ≡ (if b then seen_names keys else seen_names keys ++ k.now ∷ [])
by true keys k = refl
by false keys k = seen_more keys k

-- a key that is inserted is a name that is seen
pub seen_insert : (keys : List (Bor (List ℕ))) (k : Bor (List ℕ)) (i : Ident) → k.now ≡ i.name
    → seen_names (if list_any (λ (x : Bor (List ℕ)). bytes_eq k.now x.now) keys then keys else keys ++ k ∷ []) ≡ with_name (seen_names keys) i
seen_insert keys k i e =
    by (list_any (λ (x : Bor (List ℕ)). bytes_eq k.now x.now) keys) keys k
    ∙ ap (λ b. if b then seen_names keys else seen_names keys ++ k.now ∷ []) (any_seen k.now keys)
    ∙ ap (λ n. if list_any (bytes_eq n) (seen_names keys) then seen_names keys else seen_names keys ++ n ∷ []) e
