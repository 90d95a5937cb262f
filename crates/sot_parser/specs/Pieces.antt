-- The small productions of the grammar. A form holds the tokens that a production is made of, each
-- with what makes it one of that production. Beside each form stand the tokens that it spells, with
-- more behind, and the part of a tree that it stands for.
use Rattle.std.specs.Prelude.{ℕ, List, [], ◌∷◌, true, false, codes, map, Option, None, Some}
use Rattle.sot_text.specs.declared.token.Span.{Span}
use Rattle.sot_text.specs.Reading.{Lexeme}
use Rattle.sot_syntax_tree.specs.declared.tree.Ident.{Ident}
use Rattle.sot_syntax_tree.specs.declared.tree.Lit.{Lit}
use Rattle.sot_syntax_tree.specs.declared.tree.Bounds.{Bounds}
use Rattle.sot_syntax_tree.specs.declared.tree.Scalar.{Scalar}
use Rattle.sot_syntax_tree.specs.declared.tree.Scalar.TheVariants.{Int, Fix, Bool as Truths}
use Rattle.sot_syntax_tree.specs.declared.tree.Field.{Field}
use Rattle.sot_syntax_tree.specs.declared.tree.Const.{Const}
use Rattle.sot_syntax_tree.specs.declared.tree.Const.TheVariants as consts
use Rattle.sot_expression.specs.Lexemes.{IsKeyword, IsSign, IsName, IsNumber, ident, literal}
use Rattle.sot_expression.specs.Lexemes.{negative_literal}

-- this keyword
pub record Keyword (text : List ℕ) : Type 0 where
  pub token : Lexeme
  pub is : IsKeyword text token

-- this sign
pub record Sign (text : List ℕ) : Type 0 where
  pub token : Lexeme
  pub is : IsSign text token

-- NAME
pub record Named : Type 0 where
  pub token : Lexeme
  pub is : IsName token

-- NUMBER
pub record Digits : Type 0 where
  pub token : Lexeme
  pub is : IsNumber token

abbrev pub spelled_keyword : {text : List ℕ} → Keyword text → List Lexeme → List Lexeme
spelled_keyword k more = k.token ∷ more

abbrev pub spelled_sign : {text : List ℕ} → Sign text → List Lexeme → List Lexeme
spelled_sign s more = s.token ∷ more

abbrev pub spelled_name : Named → List Lexeme → List Lexeme
spelled_name n more = n.token ∷ more

abbrev pub spelled_number : Digits → List Lexeme → List Lexeme
spelled_number n more = n.token ∷ more

abbrev pub keyword_place : {text : List ℕ} → Keyword text → Span
keyword_place k = k.token.at

abbrev pub sign_place : {text : List ℕ} → Sign text → Span
sign_place s = s.token.at

abbrev pub name_of : Named → Ident
name_of n = ident n.token

abbrev pub number_of : Digits → Lit
number_of n = literal n.token

-- one after another
abbrev pub each : {F : Type 0} → (F → List Lexeme → List Lexeme) → List F → List Lexeme
    → List Lexeme
each spelled [] more = more
each spelled (f ∷ fs) more = spelled f (each spelled fs more)

-- a part that may be left out
abbrev pub maybe : {F : Type 0} → (F → List Lexeme → List Lexeme) → Option F → List Lexeme
    → List Lexeme
maybe spelled None more = more
maybe spelled (Some f) more = spelled f more

-- item {sign item}
pub record Further (text : List ℕ) (F : Type 0) : Type 0 where
  pub sign : Sign text
  pub item : F

pub record Separated (text : List ℕ) (F : Type 0) : Type 0 where
  pub first : F
  pub further : List (Further text F)

abbrev pub spelled_further : {text : List ℕ} {F : Type 0} → (F → List Lexeme → List Lexeme)
    → Further text F → List Lexeme → List Lexeme
spelled_further spelled f more = f.sign.token ∷ spelled f.item more

abbrev pub spelled_separated : {text : List ℕ} {F : Type 0} → (F → List Lexeme → List Lexeme)
    → Separated text F → List Lexeme → List Lexeme
spelled_separated spelled s more = spelled s.first (each (spelled_further spelled) s.further more)

abbrev pub further_of : {text : List ℕ} {F A : Type 0} → (F → A) → Further text F → A
further_of tree f = tree f.item

abbrev pub separated_of : {text : List ℕ} {F A : Type 0} → (F → A) → Separated text F → List A
separated_of tree s = tree s.first ∷ map (further_of tree) s.further

-- lit = ["-"] NUMBER
pub data LiteralForm : Type 0 where
  plain : Digits → LiteralForm
  negative : Sign (codes "-") → Digits → LiteralForm

abbrev pub spelled_literal : LiteralForm → List Lexeme → List Lexeme
spelled_literal (plain n) more = n.token ∷ more
spelled_literal (negative minus n) more = minus.token ∷ n.token ∷ more

abbrev pub literal_of : LiteralForm → Lit
literal_of (plain n) = literal n.token
literal_of (negative minus n) = negative_literal minus.token n.token

-- lit ".." lit
pub record SideForm : Type 0 where
  pub lo : LiteralForm
  pub dots : Sign (codes "..")
  pub hi : LiteralForm

abbrev pub spelled_side : SideForm → List Lexeme → List Lexeme
spelled_side s more = spelled_literal s.lo (s.dots.token ∷ spelled_literal s.hi more)

abbrev pub side_of : SideForm → Bounds
side_of s = record { lo = literal_of s.lo; hi = literal_of s.hi }

-- range = "[" lit ".." lit "]"
pub record RangeForm : Type 0 where
  pub opening : Sign (codes "[")
  pub side : SideForm
  pub closing : Sign (codes "]")

abbrev pub spelled_range : RangeForm → List Lexeme → List Lexeme
spelled_range r more = r.opening.token ∷ spelled_side r.side (r.closing.token ∷ more)

abbrev pub range_of : RangeForm → Bounds
range_of r = side_of r.side

-- scale = "fix" "(" NUMBER ")"
pub record FixForm : Type 0 where
  pub fix : Keyword (codes "fix")
  pub opening : Sign (codes "(")
  pub scale : Digits
  pub closing : Sign (codes ")")

abbrev pub spelled_fix : FixForm → List Lexeme → List Lexeme
spelled_fix f more = f.fix.token ∷ f.opening.token ∷ f.scale.token ∷ f.closing.token ∷ more

abbrev pub fix_of : FixForm → Lit
fix_of f = literal f.scale.token

-- scalar = "int" range | "fix" "(" NUMBER ")" range | "bool"
pub data ScalarForm : Type 0 where
  an_int : Keyword (codes "int") → RangeForm → ScalarForm
  a_fix : FixForm → RangeForm → ScalarForm
  a_bool : Keyword (codes "bool") → ScalarForm

abbrev pub spelled_scalar : ScalarForm → List Lexeme → List Lexeme
spelled_scalar (an_int word range) more = word.token ∷ spelled_range range more
spelled_scalar (a_fix scale range) more = spelled_fix scale (spelled_range range more)
spelled_scalar (a_bool word) more = word.token ∷ more

abbrev pub scalar_of : ScalarForm → Scalar
scalar_of (an_int word range) = Int (range_of range)
scalar_of (a_fix scale range) = Fix (fix_of scale) (range_of range)
scalar_of (a_bool word) = Truths word.token.at

-- NAME ":" scalar
pub record FieldForm : Type 0 where
  pub name : Named
  pub colon : Sign (codes ":")
  pub scalar : ScalarForm

abbrev pub spelled_field : FieldForm → List Lexeme → List Lexeme
spelled_field f more = f.name.token ∷ f.colon.token ∷ spelled_scalar f.scalar more

abbrev pub field_of : FieldForm → Field
field_of f = record { name = name_of f.name; scalar = scalar_of f.scalar }

-- const = lit | "true" | "false"
pub data ConstForm : Type 0 where
  a_literal : LiteralForm → ConstForm
  a_yes : Keyword (codes "true") → ConstForm
  a_no : Keyword (codes "false") → ConstForm

abbrev pub spelled_const : ConstForm → List Lexeme → List Lexeme
spelled_const (a_literal l) more = spelled_literal l more
spelled_const (a_yes word) more = word.token ∷ more
spelled_const (a_no word) more = word.token ∷ more

abbrev pub const_of : ConstForm → Const
const_of (a_literal l) = consts.Number (literal_of l)
const_of (a_yes word) = consts.Truth true word.token.at
const_of (a_no word) = consts.Truth false word.token.at

-- a keyword, a list of items, and ";"
pub record ClauseForm (text : List ℕ) (F : Type 0) : Type 0 where
  pub word : Keyword text
  pub items : Separated (codes ",") F
  pub semicolon : Sign (codes ";")

abbrev pub spelled_clause : {text : List ℕ} {F : Type 0} → (F → List Lexeme → List Lexeme)
    → ClauseForm text F → List Lexeme → List Lexeme
spelled_clause spelled c more =
    c.word.token ∷ spelled_separated spelled c.items (c.semicolon.token ∷ more)

abbrev pub clause_of : {text : List ℕ} {F A : Type 0} → (F → A) → ClauseForm text F → List A
clause_of tree c = separated_of tree c.items

-- a clause that is left out is an empty list
abbrev pub clause_or_none : {text : List ℕ} {F A : Type 0} → (F → A) → Option (ClauseForm text F)
    → List A
clause_or_none tree None = []
clause_or_none tree (Some c) = clause_of tree c

-- a keyword, a name, and ";"
pub record RoleForm (text : List ℕ) : Type 0 where
  pub word : Keyword text
  pub name : Named
  pub semicolon : Sign (codes ";")

abbrev pub spelled_role : {text : List ℕ} → RoleForm text → List Lexeme → List Lexeme
spelled_role r more = r.word.token ∷ r.name.token ∷ r.semicolon.token ∷ more

abbrev pub role_of : {text : List ℕ} → RoleForm text → Ident
role_of r = name_of r.name

-- timing = "period" NUMBER "offset" NUMBER
pub record TimingForm : Type 0 where
  pub period_word : Keyword (codes "period")
  pub period : Digits
  pub offset_word : Keyword (codes "offset")
  pub offset : Digits

abbrev pub spelled_timing : TimingForm → List Lexeme → List Lexeme
spelled_timing t more =
    t.period_word.token ∷ t.period.token ∷ t.offset_word.token ∷ t.offset.token ∷ more

abbrev pub timing_of : TimingForm → Lit × Lit
timing_of t = (number_of t.period, number_of t.offset)
