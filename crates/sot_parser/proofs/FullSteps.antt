-- What is of the grammar is read.
use Rattle.std.proofs.Common.{◌≡◌, ℕ, cond, List, ◌∷◌, Bool, true, false, Ok, Err, ap, ◌∙◌}
use Rattle.std.specs.Str.{bytes_eq}
use Rattle.std.proofs.lemmas.Bool.{and_from, and_left, and_right}
use Rattle.std.proofs.lemmas.Slice.Eq.{bytes_eq-Decides}
use Rattle.sot_text.specs.Reading.{Lexeme}
use Rattle.sot_text.specs.declared.token.Kind.{Kind}
use Rattle.sot_text.specs.declared.token.Kind.TheVariants as kinds
use Rattle.sot_expression.specs.Lexemes.{is_keyword_kind, is_sign_kind, is_name_kind, is_number_kind, is_keyword, is_sign, is_name, is_number, ident, literal}
use Rattle.sot_expression.specs.Readers.{Read, stuck, one_token, expect, name_at, number_at}
use Rattle.sot_parser.specs.Pieces.{Keyword, Sign, Named, Digits, name_of, number_of}

abbrev ok : {A : Type 0} → A × List Lexeme → Read A
ok x = Ok x

-- the first or the second of two, by a test
pub yes_by : {A : Type 0} {b : Bool} {m r : Read A} → b ≡ true → (n : Read A) → m ≡ r → cond b m n ≡ r
yes_by {m = m} e n h = ap (λ c. cond c m n) e ∙ h

pub no_by : {A : Type 0} {b : Bool} {n r : Read A} → b ≡ false → (m : Read A) → n ≡ r → cond b m n ≡ r
no_by {n = n} e m h = ap (λ c. cond c m n) e ∙ h

pub token_full : {A : Type 0} (test : Lexeme → Bool) (view : Lexeme → A) (t : Lexeme) (us : List Lexeme) → test t ≡ true
    → one_token test view (t ∷ us) ≡ Ok (view t, us)
token_full test view t us e = ap (λ b. cond b (ok (view t, us)) (Err (stuck, t ∷ us))) e

same_bytes : (w text : List ℕ) → w ≡ text → bytes_eq w text ≡ true
same_bytes w text e = (bytes_eq-Decides w text).1 e

-- a keyword, a sign, a name and a number pass their own tests, and no others
pub keyword_test : {text : List ℕ} (k : Keyword text) → is_keyword text k.token ≡ true
keyword_test {text} k =
    and_from (is_keyword_kind k.token.kind) (bytes_eq k.token.text text) (ap is_keyword_kind k.is.kind) (same_bytes k.token.text text k.is.text_is)

pub sign_test : {text : List ℕ} (s : Sign text) → is_sign text s.token ≡ true
sign_test {text} s = and_from (is_sign_kind s.token.kind) (bytes_eq s.token.text text) (ap is_sign_kind s.is.kind) (same_bytes s.token.text text s.is.text_is)

pub keyword_other : (other : List ℕ) {text : List ℕ} (k : Keyword text) → bytes_eq text other ≡ false → is_keyword other k.token ≡ false
keyword_other other k differ = and_right (is_keyword_kind k.token.kind) (bytes_eq k.token.text other) (ap (λ w. bytes_eq w other) k.is.text_is ∙ differ)

pub sign_other : (other : List ℕ) {text : List ℕ} (s : Sign text) → bytes_eq text other ≡ false → is_sign other s.token ≡ false
sign_other other s differ = and_right (is_sign_kind s.token.kind) (bytes_eq s.token.text other) (ap (λ w. bytes_eq w other) s.is.text_is ∙ differ)

pub keyword_no_sign : (other : List ℕ) {text : List ℕ} (k : Keyword text) → is_sign other k.token ≡ false
keyword_no_sign other k = and_left (is_sign_kind k.token.kind) (bytes_eq k.token.text other) (ap is_sign_kind k.is.kind)

pub sign_no_keyword : (other : List ℕ) {text : List ℕ} (s : Sign text) → is_keyword other s.token ≡ false
sign_no_keyword other s = and_left (is_keyword_kind s.token.kind) (bytes_eq s.token.text other) (ap is_keyword_kind s.is.kind)

pub name_no_sign : (other : List ℕ) (n : Named) → is_sign other n.token ≡ false
name_no_sign other n = and_left (is_sign_kind n.token.kind) (bytes_eq n.token.text other) (ap is_sign_kind n.is)

pub name_no_keyword : (other : List ℕ) (n : Named) → is_keyword other n.token ≡ false
name_no_keyword other n = and_left (is_keyword_kind n.token.kind) (bytes_eq n.token.text other) (ap is_keyword_kind n.is)

pub number_no_sign : (other : List ℕ) (n : Digits) → is_sign other n.token ≡ false
number_no_sign other n = and_left (is_sign_kind n.token.kind) (bytes_eq n.token.text other) (ap is_sign_kind n.is)

pub number_no_keyword : (other : List ℕ) (n : Digits) → is_keyword other n.token ≡ false
number_no_keyword other n = and_left (is_keyword_kind n.token.kind) (bytes_eq n.token.text other) (ap is_keyword_kind n.is)

pub keyword_full : {text : List ℕ} (k : Keyword text) (us : List Lexeme) → expect (is_keyword text) (k.token ∷ us) ≡ Ok (k.token.at, us)
keyword_full {text} k us = token_full (is_keyword text) (λ t. t.at) k.token us (keyword_test k)

pub sign_full : {text : List ℕ} (s : Sign text) (us : List Lexeme) → expect (is_sign text) (s.token ∷ us) ≡ Ok (s.token.at, us)
sign_full {text} s us = token_full (is_sign text) (λ t. t.at) s.token us (sign_test s)

pub name_full : (n : Named) (us : List Lexeme) → name_at (n.token ∷ us) ≡ Ok (name_of n, us)
name_full n us = token_full is_name ident n.token us (ap is_name_kind n.is)

pub number_full : (n : Digits) (us : List Lexeme) → number_at (n.token ∷ us) ≡ Ok (number_of n, us)
number_full n us = token_full is_number literal n.token us (ap is_number_kind n.is)

-- a token of which kind and text are known
pub sign_token : {text : List ℕ} (s : Sign text) → s.token ≡ record { kind = kinds.Sign; text = text; at = s.token.at; to = s.token.to }
sign_token {text} s =
    ap (λ (k : Kind). record { kind = k; text = s.token.text; at = s.token.at; to = s.token.to }) s.is.kind
    ∙ ap (λ (w : List ℕ). record { kind = kinds.Sign; text = w; at = s.token.at; to = s.token.to }) s.is.text_is
