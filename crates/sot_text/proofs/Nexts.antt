-- The next token, by what stands at the front behind blanks and comments.
use Rattle.std.proofs.Common.{◌≡◌, ℕ, ◌+◌, ◌-◌, List, length, take, drop, Option, Some, Result, Ok, sym, ap, ◌∙◌, arith}
use Rattle.std.proofs.lemmas.List.{take_rest}
use Rattle.sot_text.specs.declared.token.Kind.{Kind}
use Rattle.sot_text.specs.declared.token.LexFault.{LexFault}
use Rattle.sot_text.specs.declared.token.Span.{Span}
use Rattle.sot_text.specs.declared.lexeme.Front.{Front}
use Rattle.sot_text.specs.declared.lexeme.Front.TheVariants as fronts
use Rattle.sot_text.specs.Place.{after, begin}
use Rattle.sot_text.specs.Lexeme.{front}
use Rattle.sot_text.specs.Inside.{further}
use Rattle.sot_text.specs.Reading.{Reading, Lexeme, lexed, next_from, next_lexeme, span}
use Rattle.sot_text.proofs.Starts.{after_on}
use Rattle.sot_text.proofs.TokenPlaces.{token_on}

pub next_at : (r : Reading) (bytes : List ℕ) (at from : ℕ) (f : Front) → r ≡ record { bytes = bytes; at = at } → from ≡ next_from bytes at
    → f ≡ front (take (length bytes - from) (drop from bytes)) → lexed bytes from f ≡ next_lexeme r.bytes r.at
next_at r bytes at from f seen from_is front_is =
    let there : f ≡ front (drop from bytes) = front_is ∙ ap front (take_rest bytes from) in
    ap (lexed bytes from) there
    ∙ ap (λ (k : ℕ). lexed bytes k (front (drop k bytes))) from_is
    ∙ ap (λ (x : Reading). next_lexeme x.bytes x.at) (sym seen)

abbrev token_of : Kind → List ℕ → ℕ → Span → Result (Option Lexeme) LexFault
token_of kind text to at = Ok (Some (record { kind = kind; text = text; at = at; to = to }))

pub token_is : (bytes : List ℕ) (from len : ℕ) (kind : Kind) (s : Span) → s ≡ span bytes from
    → token_of kind (take (from + len - from) (drop from bytes)) (from + len) s ≡ lexed bytes from (fronts.Token kind len)
token_is bytes from len kind s is =
    let count : from + len - from ≡ len = omega arith in
    ap (λ (n : ℕ). token_of kind (take n (drop from bytes)) (from + len) s) count ∙ ap (token_of kind (take len (drop from bytes)) (from + len)) is

-- the place behind a token
pub place_behind : (bytes : List ℕ) (from len : ℕ) (kind : Kind) (p q : Span) → p ≡ after begin (take from bytes) → q ≡ further p len
    → fronts.Token kind len ≡ front (take (length bytes - from) (drop from bytes)) → q ≡ after begin (take (from + len) bytes)
place_behind bytes from len kind p q here is token =
    let there : front (drop from bytes) ≡ fronts.Token kind len = sym (token ∙ ap front (take_rest bytes from)) in
    after_on bytes from len p q here (token_on p (drop from bytes) kind len there ∙ sym is)
