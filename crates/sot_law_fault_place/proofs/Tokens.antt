-- Single tokens: where one is missing, nothing of it was read.
use Rattle.std.proofs.Common.{◌≡◌, ℕ, cond, List, [], ◌∷◌, ◌++◌, Bool, true, false, codes, Err, refl, subst}
use Rattle.sot_text.specs.declared.token.Span.{Span}
use Rattle.sot_text.specs.declared.token.Kind.{Kind}
use Rattle.sot_text.specs.declared.token.Kind.TheVariants as kinds
use Rattle.sot_text.specs.Lexeme.{sign_len}
use Rattle.sot_text.specs.Reading.{Lexeme}
use Rattle.sot_expression.specs.Lexemes.{is_keyword, is_sign, is_name, is_number, ident, literal, negative_literal}
use Rattle.sot_expression.specs.Readers.{Fault, stuck, one_token, expect, name_at, number_at, negative_at, literal_at}
use Rattle.sot_parser.specs.Pieces.{Keyword, Sign, Named, Digits, spelled_keyword, spelled_sign, spelled_name, spelled_number, LiteralForm, plain, negative}
use Rattle.sot_parser.specs.Pieces.{spelled_literal}
use Rattle.sot_parser.proofs.SoundSteps.{sign_is}
use Rattle.sot_expression.proofs.ReadSteps.{ok}
use Rattle.sot_law_fault_place.specs.Places.{IsToken, AreTokens}
use Rattle.sot_law_fault_place.proofs.Stops.{err, Spelling, Appends, Begun, Stop, Stops, Twin, stop_inside, stop_in}

abbrev nowhere : Span
nowhere = record { line = 1; column = 1 }

-- a token to go on with
abbrev pub token : Kind → List ℕ → Lexeme
token kind text = record { kind = kind; text = text; at = nowhere; to = 0 }

abbrev pub keyword : (text : List ℕ) → Keyword text
keyword text = record { token = token kinds.Keyword text; is = record { kind = refl; text_is = refl } }

abbrev pub sign : (text : List ℕ) → Sign text
sign text = record { token = token kinds.Sign text; is = record { kind = refl; text_is = refl } }

abbrev pub name : Named
name = record { token = token kinds.Name (codes "a"); is = refl }

abbrev pub digits : Digits
digits = record { token = token kinds.Number (codes "1"); is = refl }

-- the signs to go on with are tokens
pub dots_real : IsToken (sign (codes "..")).token
unfolding sign_len
dots_real = refl

pub open_bracket_real : IsToken (sign (codes "[")).token
unfolding sign_len
open_bracket_real = refl

pub open_parenthesis_real : IsToken (sign (codes "(")).token
unfolding sign_len
open_parenthesis_real = refl

pub close_bracket_real : IsToken (sign (codes "]")).token
unfolding sign_len
close_bracket_real = refl

pub close_parenthesis_real : IsToken (sign (codes ")")).token
unfolding sign_len
close_parenthesis_real = refl

pub colon_real : IsToken (sign (codes ":")).token
unfolding sign_len
colon_real = refl

pub open_brace_real : IsToken (sign (codes "{")).token
unfolding sign_len
open_brace_real = refl

pub close_brace_real : IsToken (sign (codes "}")).token
unfolding sign_len
close_brace_real = refl

pub semicolon_real : IsToken (sign (codes ";")).token
unfolding sign_len
semicolon_real = refl

pub comma_real : IsToken (sign (codes ",")).token
unfolding sign_len
comma_real = refl

pub equals_real : IsToken (sign (codes "=")).token
unfolding sign_len
equals_real = refl

pub becomes_real : IsToken (sign (codes ":=")).token
unfolding sign_len
becomes_real = refl

pub bar_real : IsToken (sign (codes "|")).token
unfolding sign_len
bar_real = refl

pub dot_real : IsToken (sign (codes ".")).token
unfolding sign_len
dot_real = refl

pub begun_by : {F : Type 0} {s : Spelling F} (f : F) (more : List Lexeme) → AreTokens more → ((behind : List Lexeme) → s f behind ≡ more ++ behind) → Begun s []
begun_by f more real same = record { form = f; more = more; real = real; spells = same }

-- nothing was read
pub stays : {F : Type 0} {s : Spelling F} → Begun s [] → (ts : List Lexeme) → Stop s (stuck, ts) ts
stays some ts = record { used = []; split = refl; begun = some; token = tt }

pub stays_at : {F : Type 0} {s : Spelling F} → Begun s [] → (ts : List Lexeme) (e : Fault × List Lexeme) → (stuck, ts) ≡ e → Stop s e ts
stays_at {s = s} some ts e is = subst (λ z. Stop s z ts) is (stays some ts)

-- a token that does not pass stays
pub token_stops : {F A : Type 0} {s : Spelling F} (test : Lexeme → Bool) (view : Lexeme → A) → Begun s [] → Stops s (one_token test view)
token_stops {s = s} test view some [] e eq = stays_at some [] e cc
token_stops {s = s} test view some (t ∷ ts) e eq = by (test t) eq
  where
    by : (b : Bool) → cond b (ok (view t, ts)) (err (stuck, t ∷ ts)) ≡ Err e → Stop s e (t ∷ ts)
    by true e1 = absurd cc
    by false e1 = stays_at some (t ∷ ts) e cc

-- behind one token that was read
pub stop_behind : {F G : Type 0} {s : Spelling F} {r : Spelling G} (t : Lexeme) (whole : F → G)
    → ((f : F) (behind : List Lexeme) → r (whole f) behind ≡ t ∷ s f behind) → (e : Fault × List Lexeme) (ts : List Lexeme) → Stop s e ts → Stop r e (t ∷ ts)
stop_behind t whole same e ts stop = stop_in (λ us. t ∷ us) (λ us vs. refl) whole same e ts stop

pub keyword_twin : (text : List ℕ) → IsToken (keyword text).token → Twin (spelled_keyword {text = text}) (expect (is_keyword text))
keyword_twin text real =
    let some : Begun (spelled_keyword {text = text}) [] = begun_by (keyword text) ((keyword text).token ∷ []) (real, tt) (λ behind. refl) in
    record { appends = λ f us vs. refl; some = some; stops = token_stops (is_keyword text) (λ t. t.at) some }

pub sign_twin : (text : List ℕ) → IsToken (sign text).token → Twin (spelled_sign {text = text}) (expect (is_sign text))
sign_twin text real =
    let some : Begun (spelled_sign {text = text}) [] = begun_by (sign text) ((sign text).token ∷ []) (real, tt) (λ behind. refl) in
    record { appends = λ f us vs. refl; some = some; stops = token_stops (is_sign text) (λ t. t.at) some }

pub name_twin : Twin spelled_name name_at
name_twin =
    let some : Begun spelled_name [] = begun_by name (name.token ∷ []) (refl, tt) (λ behind. refl) in
    record { appends = λ f us vs. refl; some = some; stops = token_stops is_name ident some }

pub number_twin : Twin spelled_number number_at
number_twin =
    let some : Begun spelled_number [] = begun_by digits (digits.token ∷ []) (refl, tt) (λ behind. refl) in
    record { appends = λ f us vs. refl; some = some; stops = token_stops is_number literal some }

literal_appends : (l : LiteralForm) → Appends (spelled_literal l)
literal_appends (plain n) us vs = refl
literal_appends (negative minus n) us vs = refl

some_literal : Begun spelled_literal []
some_literal = begun_by (plain digits) (digits.token ∷ []) (refl, tt) (λ behind. refl)

-- behind a minus
negative_stops : (minus : Sign (codes "-")) (ts : List Lexeme) (e : Fault × List Lexeme) → negative_at minus.token ts ≡ Err e
    → Stop spelled_literal e (minus.token ∷ ts)
negative_stops minus ts e eq =
    stop_behind minus.token (λ n. negative minus n) (λ n behind. refl) e ts
    (token_stops {s = spelled_number} is_number (negative_literal minus.token) (begun_by digits (digits.token ∷ []) (refl, tt) (λ behind. refl)) ts e eq)

literal_stops : Stops spelled_literal literal_at
literal_stops [] e eq = stays_at some_literal [] e cc
literal_stops (t ∷ ts) e eq = by (is_sign (codes "-") t) refl eq
  where
    by : (b : Bool) → is_sign (codes "-") t ≡ b → cond b (negative_at t ts) (number_at (t ∷ ts)) ≡ Err e → Stop spelled_literal e (t ∷ ts)
    by true is e1 = negative_stops (record { token = t; is = sign_is (codes "-") t is }) ts e e1
    by false is e1 = stop_inside plain (λ n behind. refl) e (t ∷ ts) (number_twin.stops (t ∷ ts) e e1)

pub literal_twin : Twin spelled_literal literal_at
literal_twin = record { appends = literal_appends; some = some_literal; stops = literal_stops }
