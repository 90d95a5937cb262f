-- Names that stand twice, and limits on lists.
use Rattle.std.specs.Prelude.{◌≡◌, ℕ, ◌+◌, ◌<◌, ◌≤◌, true, List, map, take, sum_by}
use Rattle.sot_lists.specs.Places.{At}
use Rattle.sot_text.specs.declared.token.Span.{Span}
use Rattle.sot_syntax_tree.specs.declared.tree.Ident.{Ident}
pub use Rattle.sot_names.specs.Names.{are_same, is_among}

-- here stands a name of the list that stands in it before
pub record IsRepeated (names : List Ident) (at : Span) : Type 0 where
  pub place : ℕ
  pub name : Ident
  pub stands : At names place name
  pub before : is_among name (take place names) ≡ true
  pub here : name.at ≡ at

-- here stands the first item past the limit
abbrev pub IsPast : ℕ → List Span → Span → Type 0
IsPast limit places at = At places limit at

-- here stands the name with which the sum of the sizes passes the limit
pub record IsPassedBy (size : Ident → ℕ) (limit : ℕ) (names : List Ident) (at : Span) : Type 0 where
  pub place : ℕ
  pub name : Ident
  pub stands : At names place name
  pub before : sum_by size (take place names) ≤ limit
  pub after : limit < sum_by size (take place names) + size name
  pub here : name.at ≡ at

abbrev pub places : List Ident → List Span
places names = map (λ i. i.at) names
