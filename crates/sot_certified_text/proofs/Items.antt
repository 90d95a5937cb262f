-- Lists of values that are made one after another.
use Rattle.std.proofs.Common.{◌≡◌, ℕ, zero, suc, codes, ◌+◌, ◌≤◌, Vec, Global, List, [], ◌∷◌, ◌++◌, length, take, map, refl, sym, ap, ap₂, ◌∙◌}
use Rattle.std.proofs.lemmas.List.{take_more, take_all, map-append}
use Rattle.std.proofs.lemmas.Option.{slice_get_within, get_or_from_slice_get}
use Rattle.serde_json.specs.Data.{Data, array, item, unsigned, number, object, Members, no_members, member}
use Rattle.serde_json.specs.View.{view, items_of}
use Rattle.serde_json.specs.declared.value.Value.{Value, Array}
use Rattle.serde_json.proofs.Views.{view-Array}
use Rattle.sot_lists.specs.Places.{At}
use Rattle.sot_certified_text.specs.CertText.{items_by, jittered_data}

pub made_items : {A : Type 0} (f : A → Data) (xs : List A) → items_of (map f xs) ≡ items_by f xs
made_items f [] = refl
made_items f (x ∷ xs) = ap (item (f x)) (made_items f xs)

-- one value more
pub one_more : {A : Type 0} (f : A → Data) (xs : List A) (i : ℕ) (x : A) (done after : List Value) (v : Value) → At xs i x → map view done ≡ map f (take i xs)
    → view v ≡ f x → after ≡ done ++ v ∷ []
    → map view after ≡ map f (take (i + 1) xs)
one_more f xs i x done after v at before is same =
    ap (map view) same ∙ map-append view done (v ∷ []) ∙ ap₂ (λ a b. a ++ b ∷ []) before is
    ∙ sym (map-append f (take i xs) (x ∷ [])) ∙ ap (map f) (sym
    (take_more xs i x (slice_get_within xs i x at) ∙ ap (λ y. take i xs ++ y ∷ []) (get_or_from_slice_get xs i x x at)))

-- all values made
pub whole : {A : Type 0} (f : A → Data) (xs : List A) (v : Vec Value Global) (i : ℕ) → length xs ≤ i → map view v.items ≡ map f (take i xs)
    → view (Array v) ≡ array (items_by f xs)
whole f xs v i le done =
    view-Array v ∙ ap (λ l. array (items_of l)) (done ∙ ap (map f) (take_all i xs le)) ∙ ap array (made_items f xs)

-- a jitter that is not 0
pub jittered_is : (j : ℕ) (entries : Members) → (j ≡ 0 → ⊥)
    → jittered_data j entries
    ≡ object (member (codes "format") (number (unsigned 2))
    (member (codes "jitter") (number (unsigned j)) (member (codes "modules") (object entries) no_members)))
jittered_is zero entries some = absurd (some refl)
jittered_is (suc j) entries some = refl
