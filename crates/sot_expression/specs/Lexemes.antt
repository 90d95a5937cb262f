-- What the next token is. Keywords, signs, names and numbers differ by their kinds.
use Rattle.std.specs.Prelude.{◌≡◌, ℕ, pos, neg_ℤ, List, [], ◌∷◌, Bool, true, false, ◌&&◌}
use Rattle.std.specs.Str.{bytes_eq}
use Rattle.sot_text.specs.declared.token.Kind.{Kind}
use Rattle.sot_text.specs.declared.token.Kind.TheVariants.{Name, Keyword, Number, Sign}
use Rattle.sot_text.specs.Lexeme.{mantissa_of, decimals_of}
use Rattle.sot_text.specs.Reading.{Lexeme}
use Rattle.sot_syntax_tree.specs.declared.tree.Ident.{Ident}
use Rattle.sot_syntax_tree.specs.declared.tree.Lit.{Lit}

-- a token of the grammar: this keyword, this sign, some name, some number
pub record IsKeyword (text : List ℕ) (t : Lexeme) : Type 0 where
  pub kind : t.kind ≡ Keyword
  pub text_is : t.text ≡ text

pub record IsSign (text : List ℕ) (t : Lexeme) : Type 0 where
  pub kind : t.kind ≡ Sign
  pub text_is : t.text ≡ text

abbrev pub IsName : Lexeme → Type 0
IsName t = t.kind ≡ Name

abbrev pub IsNumber : Lexeme → Type 0
IsNumber t = t.kind ≡ Number

-- tests: a token is this keyword, this sign, some name, some number
abbrev pub is_keyword_kind : Kind → Bool
is_keyword_kind Keyword = true
is_keyword_kind Name = false
is_keyword_kind Number = false
is_keyword_kind Sign = false

abbrev pub is_sign_kind : Kind → Bool
is_sign_kind Name = false
is_sign_kind Keyword = false
is_sign_kind Number = false
is_sign_kind Sign = true

abbrev pub is_name_kind : Kind → Bool
is_name_kind Name = true
is_name_kind Keyword = false
is_name_kind Number = false
is_name_kind Sign = false

abbrev pub is_number_kind : Kind → Bool
is_number_kind Name = false
is_number_kind Keyword = false
is_number_kind Number = true
is_number_kind Sign = false

abbrev pub is_keyword : List ℕ → Lexeme → Bool
is_keyword text t = is_keyword_kind t.kind && bytes_eq t.text text

abbrev pub is_sign : List ℕ → Lexeme → Bool
is_sign text t = is_sign_kind t.kind && bytes_eq t.text text

abbrev pub is_name : Lexeme → Bool
is_name t = is_name_kind t.kind

abbrev pub is_number : Lexeme → Bool
is_number t = is_number_kind t.kind

-- the next token passes the test
abbrev pub begins : (Lexeme → Bool) → List Lexeme → Bool
begins test [] = false
begins test (t ∷ ts) = test t

-- what a name and a number of a text stand for in its tree
abbrev pub ident : Lexeme → Ident
ident t = record { name = t.text; at = t.at }

-- a literal; its place is that of its first token
abbrev pub literal : Lexeme → Lit
literal n = record { mantissa = pos (mantissa_of n.text); scale = decimals_of n.text; at = n.at }

abbrev pub negative_literal : Lexeme → Lexeme → Lit
negative_literal minus n =
    record {
      mantissa = neg_ℤ (pos (mantissa_of n.text));
      scale = decimals_of n.text;
      at = minus.at;
    }
