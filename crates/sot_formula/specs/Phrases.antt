-- The grammar of formulas: what the tokens of a formula are, one case for each production.
use Rattle.std.specs.Prelude.{ℕ, ◌+◌, max, ◌≡◌, ◌≤◌, ◌⊎◌, List, [], ◌∷◌, Bool, true, false, codes}
use Rattle.std.specs.Prelude.{length, Option, None, Some}
use Rattle.sot_text.specs.Lexeme.{mantissa_of, decimals_of}
use Rattle.sot_text.specs.Reading.{Lexeme, AllLexes}
use Rattle.sot_expression.specs.Lexemes.{IsKeyword, IsSign, IsName, IsNumber}
use Rattle.sot_formula.specs.declared.words.Single.{Single}
use Rattle.sot_formula.specs.declared.words.Single.TheVariants as singles
use Rattle.sot_formula.specs.declared.words.Double.{Double}
use Rattle.sot_formula.specs.declared.words.Double.TheVariants as doubles

-- mode "(" NAME ")", NAME, NAME "." NAME
pub data Reference : Type 0 where
  a_mode : (w begin n end : Lexeme) → Reference
  a_name : (n : Lexeme) → Reference
  a_field : (n dot f : Lexeme) → Reference

-- ["-"] NUMBER
pub data Literal : Type 0 where
  a_number : (n : Lexeme) → Literal
  a_negative : (minus n : Lexeme) → Literal

-- one comparison
pub data Relation : Type 0 where
  -- ref sign lit
  to_number : (r : Reference) (by : Lexeme) (z : Literal) → Relation
  -- ref sign ref
  to_another : (r : Reference) (by : Lexeme) (q : Reference) → Relation
  -- ref ("+" | "-") ref sign lit
  of_two : (r : Reference) (pair : Lexeme) (q : Reference) (by : Lexeme) (z : Literal) → Relation

pub data Phrase : Type 0 where
  -- "true", "false"
  a_truth : (value : Bool) (t : Lexeme) → Phrase
  -- "not" "(" mon ")", "once" "(" mon ")", "always" "(" mon ")"
  a_single : (o : Single) (w begin : Lexeme) (f : Phrase) (end : Lexeme) → Phrase
  -- "and" "(" row ")", "or", "since", "implies"
  a_double : (o : Double) (w begin : Lexeme) (row : Phrase) (end : Lexeme) → Phrase
  -- mon "," mon, row "," mon: no formula alone
  a_row : (o : Double) (f : Phrase) (comma : Lexeme) (g : Phrase) → Phrase
  -- "within" "(" NUMBER "," mon ")"
  a_within : (w begin n comma : Lexeme) (f : Phrase) (end : Lexeme) → Phrase
  a_comparison : (c : Relation) → Phrase

-- the tokens, and some behind them
abbrev pub reference_spelled : Reference → List Lexeme → List Lexeme
reference_spelled (a_mode w begin n end) ts = w ∷ begin ∷ n ∷ end ∷ ts
reference_spelled (a_name n) ts = n ∷ ts
reference_spelled (a_field n dot f) ts = n ∷ dot ∷ f ∷ ts

abbrev pub literal_spelled : Literal → List Lexeme → List Lexeme
literal_spelled (a_number n) ts = n ∷ ts
literal_spelled (a_negative minus n) ts = minus ∷ n ∷ ts

abbrev pub relation_spelled : Relation → List Lexeme → List Lexeme
relation_spelled (to_number r by z) ts = reference_spelled r (by ∷ literal_spelled z ts)
relation_spelled (to_another r by q) ts = reference_spelled r (by ∷ reference_spelled q ts)
relation_spelled (of_two r pair q by z) ts =
    reference_spelled r (pair ∷ reference_spelled q (by ∷ literal_spelled z ts))

abbrev pub spelled : Phrase → List Lexeme → List Lexeme
spelled (a_truth value t) ts = t ∷ ts
spelled (a_single o w begin f end) ts = w ∷ begin ∷ spelled f (end ∷ ts)
spelled (a_double o w begin row end) ts = w ∷ begin ∷ spelled row (end ∷ ts)
spelled (a_row o f comma g) ts = spelled f (comma ∷ spelled g ts)
spelled (a_within w begin n comma f end) ts = w ∷ begin ∷ n ∷ comma ∷ spelled f (end ∷ ts)
spelled (a_comparison c) ts = relation_spelled c ts

-- a name of this text, which has a meaning of its own here
pub record IsWord (text : List ℕ) (t : Lexeme) : Type 0 where
  pub name : IsName t
  pub text_is : t.text ≡ text

abbrev pub IsSingle : Single → Lexeme → Type 0
IsSingle singles.Not t = IsKeyword (codes "not") t
IsSingle singles.Once t = IsWord (codes "once") t
IsSingle singles.Always t = IsWord (codes "always") t

abbrev pub IsDouble : Double → Lexeme → Type 0
IsDouble doubles.And t = IsKeyword (codes "and") t
IsDouble doubles.Or t = IsKeyword (codes "or") t
IsDouble doubles.Since t = IsWord (codes "since") t
IsDouble doubles.Implies t = IsWord (codes "implies") t

abbrev pub IsTruth : Bool → Lexeme → Type 0
IsTruth true t = IsKeyword (codes "true") t
IsTruth false t = IsKeyword (codes "false") t

abbrev pub IsReference : Reference → Type 0
IsReference (a_mode w begin n end) =
    IsWord (codes "mode") w × IsSign (codes "(") begin × IsName n × IsSign (codes ")") end
IsReference (a_name n) = IsName n
IsReference (a_field n dot f) = IsName n × IsSign (codes ".") dot × IsName f

abbrev pub IsLiteral : Literal → Type 0
IsLiteral (a_number n) = IsNumber n
IsLiteral (a_negative minus n) = IsSign (codes "-") minus × IsNumber n

-- "<", "<=", ">", ">=", "==", "!="
abbrev pub IsComparing : Lexeme → Type 0
IsComparing t =
    IsSign (codes "<") t ⊎ IsSign (codes "<=") t ⊎ IsSign (codes ">") t ⊎ IsSign (codes ">=") t
    ⊎ IsSign (codes "==") t ⊎ IsSign (codes "!=") t

abbrev pub IsPairing : Lexeme → Type 0
IsPairing t = IsSign (codes "+") t ⊎ IsSign (codes "-") t

abbrev pub IsRelation : Relation → Type 0
IsRelation (to_number r by z) = IsReference r × IsComparing by × IsLiteral z
IsRelation (to_another r by q) = IsReference r × IsComparing by × IsReference q
IsRelation (of_two r pair q by z) =
    IsReference r × IsPairing pair × IsReference q × IsComparing by × IsLiteral z

-- a whole number of ticks, at most 100,000
pub record AreTicks (n : Lexeme) : Type 0 where
  pub number : IsNumber n
  pub whole : decimals_of n.text ≡ 0
  pub few : mantissa_of n.text ≤ 100000

-- how many formulas stand in a row
abbrev pub row_length : Phrase → ℕ
row_length (a_truth value t) = 1
row_length (a_single o w begin f end) = 1
row_length (a_double o w begin row end) = 1
row_length (a_row o f comma g) = row_length f + 1
row_length (a_within w begin n comma f end) = 1
row_length (a_comparison c) = 1

-- how many a word joins at most; at least it joins two
abbrev pub most_parts : Double → ℕ
most_parts doubles.And = 64
most_parts doubles.Or = 64
most_parts doubles.Since = 2
most_parts doubles.Implies = 2

abbrev pub HasParts : Double → Phrase → Type 0
HasParts o row = (2 ≤ row_length row) × (row_length row ≤ most_parts o)

-- a row stands in the parentheses of its word alone
abbrev pub IsRowIn : Option Double → Double → Type 0
IsRowIn None o = ⊥
IsRowIn (Some word) o = o ≡ word

-- a formula, or a row of the word in whose parentheses it stands
abbrev pub StandsIn : Phrase → Option Double → Type 0
StandsIn (a_truth value t) word = IsTruth value t
StandsIn (a_single o w begin f end) word =
    IsSingle o w × IsSign (codes "(") begin × StandsIn f None × IsSign (codes ")") end
StandsIn (a_double o w begin row end) word =
    IsDouble o w × IsSign (codes "(") begin × StandsIn row (Some o) × HasParts o row
    × IsSign (codes ")") end
StandsIn (a_row o f comma g) word =
    IsRowIn word o × StandsIn f word × IsSign (codes ",") comma × StandsIn g None
StandsIn (a_within w begin n comma f end) word =
    IsWord (codes "within") w × IsSign (codes "(") begin × AreTicks n × IsSign (codes ",") comma
    × StandsIn f None × IsSign (codes ")") end
StandsIn (a_comparison c) word = IsRelation c

abbrev pub IsPhrase : Phrase → Type 0
IsPhrase f = StandsIn f None

-- how deep it nests: a comparison and a truth value are one level
abbrev pub levels_of : Phrase → ℕ
levels_of (a_truth value t) = 1
levels_of (a_single o w begin f end) = 1 + levels_of f
levels_of (a_double o w begin row end) = 1 + levels_of row
levels_of (a_row o f comma g) = max (levels_of f) (levels_of g)
levels_of (a_within w begin n comma f end) = 1 + levels_of f
levels_of (a_comparison c) = 1

-- the bytes, at most 16,777,216, are the text of this formula, of at most 64 levels
pub record IsFormulaText (bytes : List ℕ) (f : Phrase) : Type 0 where
  pub short : length bytes ≤ 16777216
  pub phrase : IsPhrase f
  pub levels : levels_of f ≤ 64
  pub tokens : AllLexes bytes (spelled f [])
