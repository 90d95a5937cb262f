-- The names of a list that were seen so far.
use Rattle.std.specs.Prelude.{◌≡◌, ℕ, List, [], ◌∷◌, ◌++◌, map, if◌then◌else◌}
use Rattle.std.specs.List.{list_any}
use Rattle.std.specs.Str.{bytes_eq}
use denote.Ref.{Bor}
use Rattle.sot_syntax_tree.specs.declared.tree.Ident.{Ident}
use Rattle.sot_names.specs.Names.{is_among}

abbrev pub seen_names : List (Bor (List ℕ)) → List (List ℕ)
seen_names keys = map (λ k. k.now) keys

-- the names that were seen, with one more
abbrev pub with_name : List (List ℕ) → Ident → List (List ℕ)
with_name seen i = if list_any (bytes_eq i.name) seen then seen else seen ++ i.name ∷ []

-- the names that were seen are those of a list
abbrev pub HasNames : List (Bor (List ℕ)) → List Ident → Type 0
HasNames keys names = (i : Ident) → list_any (bytes_eq i.name) (seen_names keys) ≡ is_among i names
