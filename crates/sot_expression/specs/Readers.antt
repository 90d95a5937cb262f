-- Reading from the left: what was read and the tokens behind it, or the fault and the tokens from
-- it on.
use Rattle.std.specs.Prelude.{List, [], ◌∷◌, Bool, codes, Result, Ok, Err, if◌then◌else◌}
use Rattle.sot_text.specs.declared.token.Span.{Span}
use Rattle.sot_text.specs.Reading.{Lexeme}
use Rattle.sot_syntax_tree.specs.declared.tree.Ident.{Ident}
use Rattle.sot_syntax_tree.specs.declared.tree.Lit.{Lit}
use Rattle.sot_expression.specs.Lexemes.{is_sign, is_name, is_number, ident, literal}
use Rattle.sot_expression.specs.Lexemes.{negative_literal}

-- no text goes on with this token; or it would nest too deep
pub data Fault : Type 0 where
  stuck deep : Fault

abbrev pub Read : Type 0 → Type 0
Read A = Result (A × List Lexeme) (Fault × List Lexeme)

infixl 10 ◌>>=◌
abbrev pub ◌>>=◌ : {A B : Type 0} → Read A → (A × List Lexeme → Read B) → Read B
(Ok x) >>= f = f x
(Err e) >>= f = Err e

-- one token that passes the test
abbrev pub one_token : {A : Type 0} → (Lexeme → Bool) → (Lexeme → A) → List Lexeme → Read A
one_token test view [] = Err (stuck, [])
one_token test view (t ∷ ts) = if test t then Ok (view t, ts) else Err (stuck, t ∷ ts)

-- its place
abbrev pub expect : (Lexeme → Bool) → List Lexeme → Read Span
expect test ts = one_token test (λ t. t.at) ts

abbrev pub name_at : List Lexeme → Read Ident
name_at ts = one_token is_name ident ts

abbrev pub number_at : List Lexeme → Read Lit
number_at ts = one_token is_number literal ts

-- the literal behind a minus
abbrev pub negative_at : Lexeme → List Lexeme → Read Lit
negative_at minus ts = one_token is_number (negative_literal minus) ts

-- lit = ["-"] NUMBER
abbrev pub literal_at : List Lexeme → Read Lit
literal_at [] = Err (stuck, [])
literal_at (t ∷ ts) = if is_sign (codes "-") t then negative_at t ts else number_at (t ∷ ts)
