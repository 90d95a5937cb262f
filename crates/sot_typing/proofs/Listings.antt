-- Loops that add to a list, one item after another.
use Rattle.std.proofs.Common.{◌≡◌, ℕ, ◌+◌, ◌<◌, ◌≤◌, List, [], ◌∷◌, ◌++◌, length, get_or, drop, filter_map, map, Option, Some, None, refl, sym, ap, ◌∙◌}
use Rattle.std.specs.Prelude.{flat_map}
use Rattle.std.specs.Option.{option_to_list}
use Rattle.std.specs.List.{cons_option}
use Rattle.std.proofs.lemmas.List.{drop_all, append_assoc, append-nil}
use Rattle.sot_syntax_tree.specs.declared.tree.Decl.{Decl}
use Rattle.sot_syntax_tree.specs.Trees.{Declaration}
use Rattle.sot_syntax_tree.specs.TreeViews.{declaration_view}
use Rattle.sot_rules.proofs.Loops.{rest_is}

-- what some items add, each of them its own
module _ {K T X : Type 0} (seen : List K → List T) (of : List X → List T) (one : X → List T)
    (shape : (x : X) (more : List X) → of (x ∷ more) ≡ one x ++ of more) (none : of [] ≡ []) (xs : List X) (i : ℕ) (ts : List K) (whole : List T)
    (inv : seen ts ++ of (drop i xs) ≡ whole) where
  pub add_next : (x : X) → i < length xs → x ≡ get_or xs i x → (us : List K) → seen us ≡ seen ts ++ one x → seen us ++ of (drop (i + 1) xs) ≡ whole
  add_next x lt e us push =
      ap (λ z. z ++ of (drop (i + 1) xs)) push
      ∙ append_assoc (seen ts) (one x) (of (drop (i + 1) xs))
      ∙ ap (λ z. seen ts ++ z) (sym (shape x (drop (i + 1) xs)))
      ∙ sym (ap (λ z. seen ts ++ of z) (rest_is xs i x lt e))
      ∙ inv

  pub add_done : length xs ≤ i → seen ts ≡ whole
  add_done le = sym (append-nil (seen ts)) ∙ ap (λ z. seen ts ++ z) (sym (ap of (drop_all i xs le) ∙ none)) ∙ inv

pub filter_shape : {X T : Type 0} (h : X → Option T) (x : X) (more : List X) → filter_map h (x ∷ more) ≡ option_to_list (h x) ++ filter_map h more
filter_shape {X} {T} h x more = by (h x)
  where
    by : (o : Option T) → cons_option o (filter_map h more) ≡ option_to_list o ++ filter_map h more
    by None = refl
    by (Some y) = refl

-- what the declarations of one sort add: the rows of each behind those of the ones before it
module _ {K R T : Type 0} (seen : List K → List T) (of_sort : Declaration → Option R) (rows : List R → List T)
    (split : (xs ys : List R) → rows (xs ++ ys) ≡ rows xs ++ rows ys) (none : rows [] ≡ []) (ds : List Decl) (i : ℕ) (ts : List K) where
  abbrev pub rows_of : List Decl → List T
  rows_of ds = rows (filter_map of_sort (map declaration_view ds))

  abbrev pub rows_at : Decl → List T
  rows_at d = rows (filter_map of_sort (declaration_view d ∷ []))

  rows_shape : (d : Decl) (more : List Decl) → rows_of (d ∷ more) ≡ rows_at d ++ rows_of more
  rows_shape d more = by (of_sort (declaration_view d))
    where
      by : (o : Option R) → rows (cons_option o (filter_map of_sort (map declaration_view more)))
          ≡ rows (cons_option o []) ++ rows (filter_map of_sort (map declaration_view more))
      by None = split [] (filter_map of_sort (map declaration_view more))
      by (Some r) = split (r ∷ []) (filter_map of_sort (map declaration_view more))

  pub rows_next : (whole : List T) → seen ts ++ rows_of (drop i ds) ≡ whole → (d : Decl) → i < length ds → d ≡ get_or ds i d → (us : List K)
      → seen us ≡ seen ts ++ rows_at d → seen us ++ rows_of (drop (i + 1) ds) ≡ whole
  rows_next whole inv d lt e us push = add_next seen rows_of rows_at rows_shape none ds i ts whole inv d lt e us push

  pub rows_done : (whole : List T) → seen ts ++ rows_of (drop i ds) ≡ whole → length ds ≤ i → seen ts ≡ whole
  rows_done whole inv le = add_done seen rows_of rows_at rows_shape none ds i ts whole inv le

pub flat_map_append : {X T : Type 0} (f : X → List T) (xs ys : List X) → flat_map f (xs ++ ys) ≡ flat_map f xs ++ flat_map f ys
flat_map_append f [] ys = refl
flat_map_append f (x ∷ xs) ys = ap (λ z. f x ++ z) (flat_map_append f xs ys) ∙ sym (append_assoc (f x) (flat_map f xs) (flat_map f ys))
