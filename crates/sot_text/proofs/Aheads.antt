-- The tokens to come are there, are only these, and each is a whole token.
use Rattle.std.proofs.Common.{◌≡◌, ℕ, cond, zero, suc, ◌+◌, ◌-◌, ◌<◌, ◌≤◌, List, [], ◌∷◌, Bool, true, false, not, ◌==◌, length, take, drop, Option, None, Some}
use Rattle.std.proofs.Common.{Result, Ok, Err, inl, inr, refl, sym, ap, subst, ◌∙◌, arith}
use Rattle.std.proofs.lemmas.Bool.{cases_Bool, cond-true, cond-false}
use Rattle.std.proofs.lemmas.List.{length-drop, length-take-le}
use Rattle.sot_text.specs.declared.token.Kind.{Kind}
use Rattle.sot_text.specs.declared.token.LexFault.{LexFault}
use Rattle.sot_text.specs.declared.lexeme.Front.{Front}
use Rattle.sot_text.specs.declared.lexeme.Front.TheVariants as fronts
use Rattle.sot_text.specs.Lexeme.{skipped, is_blank, front, IsTokenText}
use Rattle.sot_text.specs.Reading.{Lexeme, Lexes, lexed, next_from, next_lexeme, span}
use Rattle.sot_text.specs.Ahead.{Ahead, Comes, ending, push, ahead_with, ahead_within, ahead_from}
use Rattle.sot_text.proofs.Fronts.{token_whole}

skipped_within : (in_comment : Bool) (bs : List ℕ) → skipped in_comment bs ≤ length bs
skipped_within in_comment [] = omega arith
skipped_within true (b ∷ bs) = omega (arith, skipped_within (not (b == 10)) bs)
skipped_within false (b ∷ bs) =
    let comment = skipped_within true bs in
    let blank = skipped_within false bs in
    let other_len : ℕ = cond (is_blank b) (1 + skipped false bs) 0 in
    let here : skipped false (b ∷ bs) ≡ cond (b == 35) (1 + skipped true bs) other_len = refl in
    elim (cases_Bool (b == 35)) [
      | inl hash ↦ omega (arith, comment, here ∙ cond-true (b == 35) (1 + skipped true bs) other_len hash)
      | inr other ↦
          elim (cases_Bool (is_blank b)) [
            | inl blank_byte ↦ omega (
              arith,
              blank,
              here ∙ cond-false (b == 35) (1 + skipped true bs) other_len other
                  ∙ cond-true (is_blank b) (1 + skipped false bs) 0 blank_byte,
            )
            | inr none ↦ omega (
              arith,
              here ∙ cond-false (b == 35) (1 + skipped true bs) other_len other
                  ∙ cond-false (is_blank b) (1 + skipped false bs) 0 none,
            )
          ]
    ]

-- what is known of the next token
pub record IsNext (bytes : List ℕ) (at : ℕ) (t : Lexeme) : Type 0 where
  pub forward : at < t.to
  pub within : t.to ≤ length bytes
  pub whole : IsTokenText t.kind t.text

lexed_next : (bytes : List ℕ) (at from : ℕ) (t : Lexeme) (f : Front) → at ≤ from → front (drop from bytes) ≡ f → lexed bytes from f ≡ Ok (Some t)
    → IsNext bytes at t
lexed_next bytes at from t fronts.End le is e = absurd cc
lexed_next bytes at from t fronts.BadByte le is e = absurd cc
lexed_next bytes at from t (fronts.NameLong len) le is e = absurd cc
lexed_next bytes at from t (fronts.LiteralWide len) le is e = absurd cc
lexed_next bytes at from t (fronts.Token kind len) le is e =
    let whole = token_whole (drop from bytes) kind len is in
    let made : Lexeme = record { kind = kind; text = take len (drop from bytes); at = span bytes from; to = from + len } in
    let same : made ≡ t = cc in
    let text_len : length (take len (drop from bytes)) ≡ len = length-take-le len (drop from bytes) whole.within in
    subst (IsNext bytes at) same (record {
      forward = omega (arith, le, whole.some);
      within = omega (arith, whole.some, whole.within, length-drop from bytes);
      whole = whole.whole ∙ ap (λ n. fronts.Token kind n) (sym text_len);
    })

pub next_is : (bytes : List ℕ) (at : ℕ) (t : Lexeme) → next_lexeme bytes at ≡ Ok (Some t) → IsNext bytes at t
next_is bytes at t e = lexed_next bytes at (next_from bytes at) t (front (drop (next_from bytes at) bytes)) (omega arith) refl e

-- the bytes of a token that stands there
pub token_text : (bytes rest : List ℕ) (kind : Kind) (len from n : ℕ) → front rest ≡ fronts.Token kind len → rest ≡ drop from bytes → n ≡ len
    → IsTokenText kind (take n (drop from bytes))
token_text bytes rest kind len from n is rest_is len_is =
    let whole = token_whole rest kind len is in
    let text_len : length (take len rest) ≡ len = length-take-le len rest whole.within in
    let alone : IsTokenText kind (take len rest) = whole.whole ∙ ap (λ m. fronts.Token kind m) (sym text_len) in
    let same : take len rest ≡ take n (drop from bytes) = ap (λ m. take m rest) (sym len_is) ∙ ap (take n) rest_is in
    subst (IsTokenText kind) same alone

step_same : (f g : ℕ → Ahead) (r : Result (Option Lexeme) LexFault) → ((t : Lexeme) → r ≡ Ok (Some t) → f t.to ≡ g t.to) → ahead_with f r ≡ ahead_with g r
step_same f g (Ok None) same = refl
step_same f g (Err e) same = refl
step_same f g (Ok (Some t)) same = ap (push t) (same t refl)

within_same : (n m : ℕ) (bytes : List ℕ) (at : ℕ) → length bytes - at < n → length bytes - at < m → ahead_within n bytes at ≡ ahead_within m bytes at
unfolding ahead_within
within_same zero m bytes at h k = absurd (omega (arith, h))
within_same (suc n) zero bytes at h k = absurd (omega (arith, k))
within_same (suc n) (suc m) bytes at h k =
    step_same (ahead_within n bytes) (ahead_within m bytes) (next_lexeme bytes at)
    (λ t e. let is = next_is bytes at t e in within_same n m bytes t.to (omega (arith, h, is.forward, is.within)) (omega (arith, k, is.forward, is.within)))

-- one token, and those behind it
pub ahead_step : (bytes : List ℕ) (at : ℕ) → ahead_from bytes at ≡ ahead_with (ahead_from bytes) (next_lexeme bytes at)
unfolding ahead_from ahead_within
ahead_step bytes at =
    step_same (ahead_within (length bytes - at) bytes) (ahead_from bytes) (next_lexeme bytes at)
    (λ t e. let is = next_is bytes at t e in within_same (length bytes - at) (suc (length bytes - t.to)) bytes t.to (omega (arith, is.forward, is.within))
    (omega arith))

comes_with : (bytes : List ℕ) (at : ℕ) (more : ℕ → Ahead) (r : Result (Option Lexeme) LexFault) → next_lexeme bytes at ≡ r
    → ((t : Lexeme) → r ≡ Ok (Some t) → Comes bytes t.to (more t.to)) → Comes bytes at (ahead_with more r)
comes_with bytes at more (Ok None) is rest = (at, refl, is)
comes_with bytes at more (Err e) is rest = (at, refl, is)
comes_with bytes at more (Ok (Some t)) is rest = (let behind = rest t refl in (behind.0, (is, behind.1), behind.2))

comes_within : (n : ℕ) (bytes : List ℕ) (at : ℕ) → length bytes - at < n → Comes bytes at (ahead_within n bytes at)
unfolding ahead_within
comes_within zero bytes at h = absurd (omega (arith, h))
comes_within (suc n) bytes at h =
    comes_with bytes at (ahead_within n bytes) (next_lexeme bytes at) refl
    (λ t e. let is = next_is bytes at t e in comes_within n bytes t.to (omega (arith, h, is.forward, is.within)))

pub ahead_comes : (bytes : List ℕ) (at : ℕ) → Comes bytes at (ahead_from bytes at)
unfolding ahead_from
ahead_comes bytes at = comes_within (suc (length bytes - at)) bytes at (omega arith)

some_ends : {A : Type 0} (end : Option LexFault) (t : Lexeme) → Ok (Some t) ≡ ending end → A
some_ends None t e = absurd cc
some_ends (Some f) t e = absurd cc

ending_is : (a b : Option LexFault) → ending a ≡ ending b → a ≡ b
ending_is None None e = refl
ending_is None (Some f) e = absurd cc
ending_is (Some f) None e = absurd cc
ending_is (Some f) (Some g) e = cc

-- they are determined
comes_only : (bytes : List ℕ) (at : ℕ) (ts us : List Lexeme) (e f : Option LexFault) → Comes bytes at (record { tokens = ts; end = e })
    → Comes bytes at (record { tokens = us; end = f }) → (ts ≡ us) × (e ≡ f)
comes_only bytes at [] [] e f (to, run, stop) (to', run', stop') =
    let same : ending e ≡ ending f = sym stop ∙ ap (next_lexeme bytes) (run ∙ sym run') ∙ stop' in
    (refl, ending_is e f same)
comes_only bytes at [] (u ∷ us) e f (to, run, stop) (to', run', stop') =
    some_ends e u (sym run'.0 ∙ sym (ap (next_lexeme bytes) run) ∙ stop)
comes_only bytes at (t ∷ ts) [] e f (to, run, stop) (to', run', stop') =
    some_ends f t (sym run.0 ∙ sym (ap (next_lexeme bytes) run') ∙ stop')
comes_only bytes at (t ∷ ts) (u ∷ us) e f (to, run, stop) (to', run', stop') =
    let both : Ok (Some t) ≡ Ok (Some u) = sym run.0 ∙ run'.0 in
    let first : t ≡ u = cc in
    let there : Lexes bytes t.to us to' = subst (λ (x : Lexeme). Lexes bytes x.to us to') (sym first) run'.1 in
    let more = comes_only bytes t.to ts us e f (to, run.1, stop) (to', there, stop') in
    (cc, more.1)

pub comes_unique : (bytes : List ℕ) (at : ℕ) (a b : Ahead) → Comes bytes at a → Comes bytes at b → a ≡ b
comes_unique bytes at a b p q =
    let same = comes_only bytes at a.tokens b.tokens a.end b.end p q in
    ap (λ (ts : List Lexeme). record { tokens = ts; end = a.end }) same.0 ∙ ap (λ (e : Option LexFault). record { tokens = b.tokens; end = e }) same.1
