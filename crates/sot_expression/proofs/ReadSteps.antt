-- What a reader that went well has read.
use Rattle.std.proofs.Common.{◌≡◌, ℕ, cond, List, [], ◌∷◌, Bool, true, false, Ok, Err, refl, sym, ap, ◌∙◌}
use Rattle.sot_text.specs.declared.token.Span.{Span}
use Rattle.sot_text.specs.Reading.{Lexeme}
use Rattle.sot_syntax_tree.specs.declared.tree.Ident.{Ident}
use Rattle.sot_syntax_tree.specs.declared.tree.Lit.{Lit}
use Rattle.sot_expression.specs.Lexemes.{IsKeyword, IsSign, IsName, IsNumber, is_keyword, is_sign, is_name, is_number, ident, literal, negative_literal}
use Rattle.sot_expression.specs.Readers.{Read, Fault, ◌>>=◌, one_token, expect, name_at, number_at, negative_at}
use Rattle.sot_expression.specs.ExpressionReaders.{any_token}
use Rattle.sot_expression.proofs.TokenTests.{sign_ok, keyword_ok, name_ok, number_ok}

abbrev pub ok : {A : Type 0} → A × List Lexeme → Read A
ok x = Ok x

pub bind_ok : {A B : Type 0} (m : Read A) (f : A × List Lexeme → Read B) (y : B × List Lexeme) → (m >>= f) ≡ Ok y
    → (x : A × List Lexeme) × (m ≡ Ok x) × (f x ≡ Ok y)
bind_ok (Ok x) f y e = (x, refl, e)
bind_ok (Err g) f y e = absurd cc

pub ok_is : {A : Type 0} (x y : A × List Lexeme) → ok x ≡ ok y → x ≡ y
ok_is x y e = cc

pub guard_ok : {A : Type 0} (b : Bool) (m : Read A) (g : Fault × List Lexeme) (y : A × List Lexeme) → cond b m (Err g) ≡ Ok y → (b ≡ true) × (m ≡ Ok y)
guard_ok true m g y e = (refl, e)
guard_ok false m g y e = absurd cc

pub unless_ok : {A : Type 0} (b : Bool) (m : Read A) (g : Fault × List Lexeme) (y : A × List Lexeme) → cond b (Err g) m ≡ Ok y → (b ≡ false) × (m ≡ Ok y)
unless_ok true m g y e = absurd cc
unless_ok false m g y e = (refl, e)

-- a choice by a test
pub chosen_by : {A : Type 0} (b : Bool) (m n : Read A) (x : A × List Lexeme) (P : Type 0) → cond b m n ≡ Ok x → (b ≡ true → m ≡ Ok x → P)
    → (b ≡ false → n ≡ Ok x → P) → P
chosen_by true m n x P e f g = f refl e
chosen_by false m n x P e f g = g refl e

-- a token that passed a test
pub record Took {A : Type 0} (test : Lexeme → Bool) (view : Lexeme → A) (ts : List Lexeme) (x : A × List Lexeme) : Type 0 where
  pub token : Lexeme
  pub tokens : ts ≡ token ∷ x.1
  pub passes : test token ≡ true
  pub view_is : x.0 ≡ view token

pub one_token_ok : {A : Type 0} (test : Lexeme → Bool) (view : Lexeme → A) (ts : List Lexeme) (x : A × List Lexeme) → one_token test view ts ≡ Ok x
    → Took test view ts x
one_token_ok test view [] x e = absurd cc
one_token_ok test view (t ∷ ts) x e =
    let g = guard_ok (test t) (Ok (view t, ts)) _ x e in
    let is = ok_is (view t, ts) x g.1 in
    record { token = t; tokens = ap (λ z. t ∷ z.1) is; passes = g.0; view_is = sym (ap (λ z. z.0) is) }

pub sign_taken : (w : List ℕ) (ts : List Lexeme) (x : Span × List Lexeme) → expect (is_sign w) ts ≡ Ok x → (t : Lexeme) × (ts ≡ t ∷ x.1) × IsSign w t
sign_taken w ts x e = let h = one_token_ok (is_sign w) (λ t. t.at) ts x e in (h.token, h.tokens, sign_ok w h.token h.passes)

pub keyword_taken : (w : List ℕ) (ts : List Lexeme) (x : Span × List Lexeme) → expect (is_keyword w) ts ≡ Ok x → (t : Lexeme) × (ts ≡ t ∷ x.1) × IsKeyword w t
keyword_taken w ts x e = let h = one_token_ok (is_keyword w) (λ t. t.at) ts x e in (h.token, h.tokens, keyword_ok w h.token h.passes)

pub name_taken : (ts : List Lexeme) (x : Ident × List Lexeme) → name_at ts ≡ Ok x → (t : Lexeme) × (ts ≡ t ∷ x.1) × IsName t × (x.0 ≡ ident t)
name_taken ts x e = let h = one_token_ok is_name ident ts x e in (h.token, h.tokens, name_ok h.token h.passes, h.view_is)

pub number_taken : (ts : List Lexeme) (x : Lit × List Lexeme) → number_at ts ≡ Ok x → (t : Lexeme) × (ts ≡ t ∷ x.1) × IsNumber t × (x.0 ≡ literal t)
number_taken ts x e = let h = one_token_ok is_number literal ts x e in (h.token, h.tokens, number_ok h.token h.passes, h.view_is)

pub negative_taken : (minus : Lexeme) (ts : List Lexeme) (x : Lit × List Lexeme) → negative_at minus ts ≡ Ok x
    → (t : Lexeme) × (ts ≡ t ∷ x.1) × IsNumber t × (x.0 ≡ negative_literal minus t)
negative_taken minus ts x e = let h = one_token_ok is_number (negative_literal minus) ts x e in (h.token, h.tokens, number_ok h.token h.passes, h.view_is)

pub any_taken : (ts : List Lexeme) (x : Lexeme × List Lexeme) → any_token ts ≡ Ok x → ts ≡ x.0 ∷ x.1
any_taken [] x e = absurd cc
any_taken (t ∷ ts) x e = let is = ok_is (t, ts) x e in ap (λ (z : Lexeme × List Lexeme). z.0 ∷ z.1) is

-- one step of a chain
pub give : {A B : Type 0} {m : Read A} {x : A × List Lexeme} → m ≡ Ok x → (k : A × List Lexeme → Read B) (r : Read B) → k x ≡ r → (m >>= k) ≡ r
give e k r h = ap (λ n. n >>= k) e ∙ h
