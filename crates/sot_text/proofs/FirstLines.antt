-- How far the first line of a text goes, and the place behind it.
use Rattle.std.proofs.Common.{◌≡◌, ◌≢◌, ℕ, zero, suc, ◌+◌, ◌-◌, ◌<◌, List, [], ◌∷◌, true, false, ◌==◌, inl, inr, length, take, drop, get_or, refl, sym, ap, ◌∙◌}
use Rattle.std.proofs.Common.{arith}
use Rattle.std.proofs.lemmas.Bool.{cases_Bool, cond-true, cond-false}
use Rattle.std.proofs.lemmas.Bool.Decides.{nat_tests}
use Rattle.memchr.specs.Find.{Nowhere, Passes, is_byte}
use Rattle.sot_text.specs.declared.token.Span.{Span}
use Rattle.sot_text.specs.Place.{after, after_byte}
use Rattle.sot_text.specs.Lexeme.{skipped}
use Rattle.sot_text.specs.LineEnds.{line_len}
use Rattle.sot_text.specs.Inside.{further, next_line}
use Rattle.sot_text.proofs.Lines.{line_len-pos}

-- the first line goes to the first line end
pub line_found : (k : ℕ) (bs : List ℕ) → k < length bs → Nowhere (Passes (is_byte 10) bs) 0 k → Passes (is_byte 10) bs k → line_len bs ≡ k + 1
line_found k [] inside none here = absurd (omega arith)
line_found zero (b ∷ bs) inside none here = rw here refl
line_found (suc k) (b ∷ bs) inside none here =
    elim (cases_Bool (b == 10)) [
      | inl end ↦ absurd (none 0 (omega arith) (omega arith) end)
      | inr more ↦ (let rest = line_found k bs (omega arith) (λ j low high passes. none (suc j) (omega arith) (omega arith) passes) here in
          rw more (omega arith))
    ]

-- and is the whole text where there is none
pub line_whole : (bs : List ℕ) → Nowhere (Passes (is_byte 10) bs) 0 (length bs) → line_len bs ≡ length bs
line_whole [] none = refl
line_whole (b ∷ bs) none =
    elim (cases_Bool (b == 10)) [
      | inl end ↦ absurd (none 0 (omega arith) (omega arith) end)
      | inr more ↦ (let rest = line_whole bs (λ j low high passes. none (suc j) (omega arith) (omega arith) passes) in rw more (omega arith))
    ]

-- the place behind one byte
pub byte_ends : (p : Span) (b : ℕ) → (b == 10) ≡ true → after_byte p b ≡ next_line p
byte_ends p b end = cond-true (b == 10) _ _ end

pub byte_goes_on : (p : Span) (b : ℕ) → (b == 10) ≡ false → after_byte p b ≡ further p 1
byte_goes_on p b more = cond-false (b == 10) _ _ more

pub further-add : (p : Span) (n m k : ℕ) → n + m ≡ k → further (further p n) m ≡ further p k
further-add p n m k sum =
    (let column : p.column + n + m ≡ p.column + k = omega arith in ap (λ (c : ℕ). let q : Span = record { line = p.line; column = c } in q) column)

pub further-none : (p : Span) → p ≡ further p 0
further-none p = (let column : p.column ≡ p.column + 0 = omega arith in ap (λ (c : ℕ). let q : Span = record { line = p.line; column = c } in q) column)

-- the last byte of the first line, where a byte of it stands before
last_byte : (b x : ℕ) (bs : List ℕ) → 0 < length bs → (b == 10) ≡ false → get_or (b ∷ bs) (line_len (b ∷ bs) - 1) 0 ≡ x → get_or bs (line_len bs - 1) 0 ≡ x
last_byte b x bs some more is =
    let pos = line_len-pos bs some in
    let less : line_len bs ≡ suc (line_len bs - 1) = omega arith in
    let one : suc (line_len bs) - 1 ≡ line_len bs = omega arith in
    let there : get_or (b ∷ bs) (suc (line_len bs) - 1) 0 ≡ x = rw more at is in
    ap (λ (n : ℕ). get_or (b ∷ bs) n 0) (sym less ∙ sym one) ∙ there

-- behind a line that ends, the next one begins
pub after_ended : (p : Span) (bs : List ℕ) → 0 < length bs → get_or bs (line_len bs - 1) 0 ≡ 10 → after p (take (line_len bs) bs) ≡ next_line p
after_ended p [] some end = absurd (omega arith)
after_ended p (b ∷ []) some end =
    elim (cases_Bool (b == 10)) [
      | inl here ↦ rw here (byte_ends p b here)
      | inr more ↦ (let is : b ≡ 10 = rw more at end in absurd (grind (arith, nat_tests)))
    ]
after_ended p (b ∷ c ∷ bs) some end =
    elim (cases_Bool (b == 10)) [
      | inl here ↦ rw here (byte_ends p b here)
      | inr more ↦
          let rest : List ℕ = c ∷ bs in
          rw more (ap (λ (q : Span). after q (take (line_len rest) rest)) (byte_goes_on p b more)
          ∙ after_ended (further p 1) (c ∷ bs) (omega arith) (last_byte b 10 rest (omega arith) more end))
    ]

-- behind a line that the text ends, only columns were gone over
pub after_open : (p : Span) (bs : List ℕ) → get_or bs (line_len bs - 1) 0 ≢ 10 → after p (take (line_len bs) bs) ≡ further p (line_len bs)
after_open p [] end = further-none p
after_open p (b ∷ []) end =
    elim (cases_Bool (b == 10)) [
      | inl here ↦ (let is : b ≡ 10 = grind (arith, nat_tests) in absurd (rw here at end is))
      | inr more ↦ rw more (byte_goes_on p b more)
    ]
after_open p (b ∷ c ∷ bs) end =
    let rest : List ℕ = c ∷ bs in
    let n : ℕ = line_len rest in
    elim (cases_Bool (b == 10)) [
      | inl here ↦ (let is : b ≡ 10 = grind (arith, nat_tests) in absurd (rw here at end is))
      | inr more ↦
          let other : get_or rest (n - 1) 0 ≢ 10 = λ e. end (last_byte_on b 10 rest (omega arith) more e) in
          rw more (ap (λ (q : Span). after q (take n rest)) (byte_goes_on p b more) ∙ after_open (further p 1) (c ∷ bs) other
          ∙ further-add p 1 n (suc n) (omega arith))
    ]
  where
    last_byte_on : (b x : ℕ) (bs : List ℕ) → 0 < length bs → (b == 10) ≡ false → get_or bs (line_len bs - 1) 0 ≡ x
        → get_or (b ∷ bs) (line_len (b ∷ bs) - 1) 0 ≡ x
    last_byte_on b x bs some more is =
        let pos = line_len-pos bs some in
        let less : suc (line_len bs) - 1 ≡ suc (line_len bs - 1) = omega arith in
        rw more (ap (λ (n : ℕ). get_or (b ∷ bs) n 0) less ∙ is)

-- a comment is skipped to the end of its line
pub comment_skips : (bs : List ℕ) → skipped true bs ≡ line_len bs + skipped false (drop (line_len bs) bs)
comment_skips [] = refl
comment_skips (b ∷ bs) = elim (cases_Bool (b == 10)) [ inl end ↦ rw end refl | inr more ↦ (let rest = comment_skips bs in rw more (omega arith)) ]
