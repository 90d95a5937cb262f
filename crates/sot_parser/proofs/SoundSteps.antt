-- What readers promise: what is read is of the grammar, and what is of the grammar is read.
use Rattle.std.proofs.Common.{◌≡◌, ℕ, cond, List, [], ◌∷◌, Bool, true, false, Ok, refl, sym, ap, subst}
use Rattle.std.specs.Str.{bytes_eq}
use Rattle.std.proofs.lemmas.Bool.{and_parts}
use Rattle.std.proofs.lemmas.Slice.Eq.{bytes_eq-Decides}
use Rattle.sot_text.specs.Reading.{Lexeme}
use Rattle.sot_text.specs.declared.token.Kind.{Kind}
use Rattle.sot_text.specs.declared.token.Kind.TheVariants as kinds
use Rattle.sot_expression.specs.Lexemes.{IsKeyword, IsSign, is_keyword_kind, is_sign_kind, is_name_kind, is_number_kind, is_keyword, is_sign, is_name}
use Rattle.sot_expression.specs.Lexemes.{is_number, ident, literal}
use Rattle.sot_expression.specs.Readers.{Read, stuck, ◌>>=◌, one_token, expect, name_at, number_at}
use Rattle.sot_expression.proofs.ReadSteps.{bind_ok, ok_is, guard_ok}
use Rattle.sot_parser.specs.Pieces.{spelled_keyword, spelled_sign, spelled_name, spelled_number, keyword_place, sign_place, name_of, number_of}

abbrev ok : {A : Type 0} → A × List Lexeme → Read A
ok x = Ok x

-- a form of the grammar stands in front, and this is what it stands for
abbrev pub Found : {F A : Type 0} → (F → List Lexeme → List Lexeme) → (F → A) → (F → Type 0) → List Lexeme → A × List Lexeme → Type 0
Found {F} spelled tree Fits ts y = (f : F) × Fits f × (ts ≡ spelled f y.1) × (y.0 ≡ tree f)

-- what is read is of the grammar
abbrev pub Sound : {F A : Type 0} → (F → List Lexeme → List Lexeme) → (F → A) → (F → Type 0) → (List Lexeme → Read A) → Type 0
Sound {F} {A} spelled tree Fits g = (ts : List Lexeme) (y : A × List Lexeme) → g ts ≡ Ok y → Found spelled tree Fits ts y

-- any form will do
abbrev pub Any : {F : Type 0} → F → Type 0
Any f = Unit {0}

-- whatever is read has this property
abbrev pub Leads : {A : Type 0} → (List Lexeme → Read A) → (A × List Lexeme → List Lexeme → Type 0) → Type 0
Leads {A} g P = (ts : List Lexeme) (y : A × List Lexeme) → g ts ≡ Ok y → P y ts

-- one step of a chain
pub take : {F A B : Type 0} {spelled : F → List Lexeme → List Lexeme} {tree : F → A} {Fits : F → Type 0} {g : List Lexeme → Read A}
    (sound : Sound spelled tree Fits g)
    (k : A × List Lexeme → Read B) (P : B × List Lexeme → List Lexeme → Type 0)
    → ((f : F) → Fits f → Leads (λ us. k (tree f, us)) (λ y us. P y (spelled f us))) → Leads (λ ts. g ts >>= k) P
take {g = g} sound k P next ts y e =
    let b = bind_ok (g ts) k y e in
    let s = sound ts b.0 b.1 in
    subst (P y) (sym s.2) (next s.0 s.1 b.0.1 y (subst (λ a. k (a, b.0.1) ≡ Ok y) s.3 b.2))

-- the last step of a chain, which answers what it reads
pub close : {F A : Type 0} {spelled : F → List Lexeme → List Lexeme} {tree : F → A} {Fits : F → Type 0} {g : List Lexeme → Read A}
    (sound : Sound spelled tree Fits g) (P : A × List Lexeme → List Lexeme → Type 0)
    → ((f : F) → Fits f → (us : List Lexeme) → P (tree f, us) (spelled f us)) → Leads g P
close {spelled = spelled} sound P next ts y e =
    let s = sound ts y e in
    subst (P y) (sym s.2) (subst (λ a. P (a, y.1) (spelled s.0 y.1)) (sym s.3) (next s.0 s.1 y.1))

-- the end of such a chain
pub here : {F A : Type 0} (spelled : F → List Lexeme → List Lexeme) (tree : F → A) (f : F) (us : List Lexeme)
    → Found spelled tree Any (spelled f us) (tree f, us)
here spelled tree f us = (f, tt, refl, refl)

-- one of two, by the next token
pub either : {A : Type 0} (test : List Lexeme → Bool) (m n : List Lexeme → Read A) (P : A × List Lexeme → List Lexeme → Type 0) → Leads m P → Leads n P
    → Leads (λ ts. cond (test ts) (m ts) (n ts)) P
either test m n P lm ln ts y e = by_case (test ts) e
  where
    by_case : (b : Bool) → cond b (m ts) (n ts) ≡ Ok y → P y ts
    by_case true e = lm ts y e
    by_case false e = ln ts y e

-- the end of a chain
pub done_within : {F A : Type 0} (spelled : F → List Lexeme → List Lexeme) (tree : F → A) (Fits : F → Type 0) (f : F) → Fits f
    → Leads (λ us. ok (tree f, us)) (λ y us. Found spelled tree Fits (spelled f us) y)
done_within spelled tree Fits f fits us y e = subst (λ z. Found spelled tree Fits (spelled f us) z) (ok_is (tree f, us) y e) (f, fits, refl, refl)

pub done : {F A : Type 0} (spelled : F → List Lexeme → List Lexeme) (tree : F → A) (f : F)
    → Leads (λ us. ok (tree f, us)) (λ y us. Found spelled tree Any (spelled f us) y)
done spelled tree f = done_within spelled tree Any f tt

keyword_kind : (k : Kind) → is_keyword_kind k ≡ true → k ≡ kinds.Keyword
keyword_kind kinds.Keyword e = refl
keyword_kind kinds.Name e = absurd cc
keyword_kind kinds.Number e = absurd cc
keyword_kind kinds.Sign e = absurd cc

sign_kind : (k : Kind) → is_sign_kind k ≡ true → k ≡ kinds.Sign
sign_kind kinds.Sign e = refl
sign_kind kinds.Name e = absurd cc
sign_kind kinds.Number e = absurd cc
sign_kind kinds.Keyword e = absurd cc

pub name_kind : (k : Kind) → is_name_kind k ≡ true → k ≡ kinds.Name
name_kind kinds.Name e = refl
name_kind kinds.Sign e = absurd cc
name_kind kinds.Number e = absurd cc
name_kind kinds.Keyword e = absurd cc

pub number_kind : (k : Kind) → is_number_kind k ≡ true → k ≡ kinds.Number
number_kind kinds.Number e = refl
number_kind kinds.Sign e = absurd cc
number_kind kinds.Name e = absurd cc
number_kind kinds.Keyword e = absurd cc

pub token_ok : {A : Type 0} (test : Lexeme → Bool) (view : Lexeme → A) (ts : List Lexeme) (y : A × List Lexeme) → one_token test view ts ≡ Ok y
    → (t : Lexeme) × (test t ≡ true) × (ts ≡ t ∷ y.1) × (y.0 ≡ view t)
token_ok test view [] y e = absurd cc
token_ok test view (t ∷ ts) y e =
    let g = guard_ok (test t) (ok (view t, ts)) (stuck, t ∷ ts) y e in
    let is = ok_is (view t, ts) y g.1 in
    (t, g.0, ap (λ z. t ∷ z.1) is, sym (ap (λ z. z.0) is))

pub keyword_is : (text : List ℕ) (t : Lexeme) → is_keyword text t ≡ true → IsKeyword text t
keyword_is text t e =
    let p = and_parts (is_keyword_kind t.kind) (bytes_eq t.text text) e in
    record { kind = keyword_kind t.kind p.0; text_is = (bytes_eq-Decides t.text text).0 p.1 }

pub sign_is : (text : List ℕ) (t : Lexeme) → is_sign text t ≡ true → IsSign text t
sign_is text t e =
    let p = and_parts (is_sign_kind t.kind) (bytes_eq t.text text) e in
    record { kind = sign_kind t.kind p.0; text_is = (bytes_eq-Decides t.text text).0 p.1 }

pub keyword_sound : (text : List ℕ) → Sound (spelled_keyword {text = text}) keyword_place Any (expect (is_keyword text))
keyword_sound text ts y e =
    let t = token_ok (is_keyword text) (λ t. t.at) ts y e in
    (record { token = t.0; is = keyword_is text t.0 t.1 }, tt, t.2, t.3)

pub sign_sound : (text : List ℕ) → Sound (spelled_sign {text = text}) sign_place Any (expect (is_sign text))
sign_sound text ts y e =
    let t = token_ok (is_sign text) (λ t. t.at) ts y e in
    (record { token = t.0; is = sign_is text t.0 t.1 }, tt, t.2, t.3)

pub name_sound : Sound spelled_name name_of Any name_at
name_sound ts y e =
    let t = token_ok is_name ident ts y e in
    (record { token = t.0; is = name_kind t.0.kind t.1 }, tt, t.2, t.3)

pub number_sound : Sound spelled_number number_of Any number_at
number_sound ts y e =
    let t = token_ok is_number literal ts y e in
    (record { token = t.0; is = number_kind t.0.kind t.1 }, tt, t.2, t.3)
