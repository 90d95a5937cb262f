-- Names that were added to a set one after another are in it.
use Rattle.std.proofs.Common.{◌≡◌, ◌∙◌, ℕ, List, [], ◌∷◌, ◌++◌, Bool, true, false, ◌||◌, if◌then◌else◌, fold, map, refl, sym, ap}
use Rattle.std.specs.List.{list_any}
use Rattle.std.specs.Str.{bytes_eq}
use Rattle.std.proofs.lemmas.List.{map-id}
use Rattle.std.proofs.lemmas.List.Folds.{list_any-append}
use Rattle.std.proofs.lemmas.Slice.Eq.{bytes_eq-Decides}
use denote.Ref.{Bor}
use Rattle.sot_syntax_tree.specs.declared.tree.Ident.{Ident}
use Rattle.sot_names.specs.Names.{is_among}
use Rattle.sot_names.specs.SeenNames.{seen_names, with_name, HasNames}

or_none : (b : Bool) → b ≡ (b || false)
or_none true = refl
or_none false = refl

or_assoc : (a b c : Bool) → ((a || b) || c) ≡ (a || (b || c))
or_assoc true b c = refl
or_assoc false b c = refl

abbrev among : List ℕ → List Ident → Bool
among n names = list_any (λ j. bytes_eq n j.name) names

module _ (n : List ℕ) (seen : List (List ℕ)) (j : Ident) where
  -- a name that is there already
  known : (d : Bool) → bytes_eq n j.name ≡ d → list_any (bytes_eq j.name) seen ≡ true → list_any (bytes_eq n) seen ≡ (list_any (bytes_eq n) seen || d)
  known false e h = or_none (list_any (bytes_eq n) seen)
  known true e h =
      let there : list_any (bytes_eq n) seen ≡ true = ap (λ z. list_any (bytes_eq z) seen) ((bytes_eq-Decides n j.name).0 e) ∙ h in
      there ∙ sym (ap (λ b. b || true) there)

  one_by : (b : Bool) → list_any (bytes_eq j.name) seen ≡ b
      → list_any (bytes_eq n) (if b then seen else seen ++ j.name ∷ []) ≡ (list_any (bytes_eq n) seen || bytes_eq n j.name)
  one_by true h = known (bytes_eq n j.name) refl h
  one_by false h = list_any-append (bytes_eq n) seen (j.name ∷ []) ∙ ap (λ b. list_any (bytes_eq n) seen || b) (sym (or_none (bytes_eq n j.name)))

  one_more : list_any (bytes_eq n) (with_name seen j) ≡ (list_any (bytes_eq n) seen || bytes_eq n j.name)
  one_more = one_by (list_any (bytes_eq j.name) seen) refl

all_more : (n : List ℕ) (seen : List (List ℕ)) (names : List Ident)
    → list_any (bytes_eq n) (fold with_name seen names) ≡ (list_any (bytes_eq n) seen || among n names)
all_more n seen [] = or_none (list_any (bytes_eq n) seen)
all_more n seen (j ∷ names) =
    all_more n (with_name seen j) names
    ∙ ap (λ b. b || among n names) (one_more n seen j)
    ∙ or_assoc (list_any (bytes_eq n) seen) (bytes_eq n j.name) (among n names)

-- names that are added to those of a list
pub more_held : (old_keys keys : List (Bor (List ℕ))) (more : List Ident) → seen_names keys ≡ fold with_name (seen_names old_keys) more → (names : List Ident)
    → HasNames old_keys names → HasNames keys (names ++ more)
more_held old_keys keys more added names held i =
    ap (list_any (bytes_eq i.name)) added
    ∙ all_more i.name (seen_names old_keys) more
    ∙ ap (λ b. b || among i.name more) (held i)
    ∙ sym (list_any-append (λ j. bytes_eq i.name j.name) names more)

-- no key has no name
pub none_held : (keys : List (Bor (List ℕ))) → keys ≡ [] → HasNames keys []
none_held keys e i = ap (λ z. list_any (bytes_eq i.name) (seen_names z)) e

-- the names of lists that stand for themselves
abbrev same : List Ident → List Ident
same names = map (λ i. i) names

pub listed_held : (keys : List (Bor (List ℕ))) (xs ys : List Ident) → HasNames keys xs → xs ≡ ys → HasNames keys ys
listed_held keys xs ys held e i = held i ∙ ap (is_among i) e

pub one_held : (keys : List (Bor (List ℕ))) (xs ys : List Ident) → HasNames keys (same xs) → xs ≡ ys → HasNames keys ys
one_held keys xs ys held e i = held i ∙ ap (is_among i) (map-id xs ∙ e)

pub two_held : (old_keys keys : List (Bor (List ℕ))) (names xs ys : List Ident) → HasNames old_keys names
    → ((some : List Ident) → HasNames old_keys some → HasNames keys (some ++ same xs)) → xs ≡ ys → HasNames keys (names ++ ys)
two_held old_keys keys names xs ys held more e i = more names held i ∙ ap (λ z. is_among i (names ++ z)) (map-id xs ∙ e)

pub mapped_held : {X : Type 0} (f : X → Ident) (keys : List (Bor (List ℕ))) (xs ys : List X) → HasNames keys (map f xs) → xs ≡ ys → HasNames keys (map f ys)
mapped_held f keys xs ys held e i = held i ∙ ap (λ z. is_among i (map f z)) e
