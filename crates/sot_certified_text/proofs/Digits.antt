-- Digits are of one line, and do not begin with '%'.
use Rattle.std.proofs.Common.{◌≡◌, ℕ, zero, suc, ◌+◌, ◌/◌, ◌%◌, ◌==◌, not, nat_lt, true, false, ℤ, pos, negsuc, List, [], ◌∷◌, inl, inr, refl, arith}
use Rattle.std.specs.Fmt.{decimal, signed_decimal, digits, digits_onto, digit_glyph}
use Rattle.std.proofs.lemmas.Bool.{cases_Bool}
use Rattle.std.proofs.lemmas.Bool.Decides.{nat_tests}
use Rattle.sot_certified_text.proofs.PlainTexts.{is_one_line, begins_plain, both}

glyph_no_end : (d : ℕ) → not (digit_glyph false d == 10) ≡ true
glyph_no_end d =
    elim (cases_Bool (nat_lt d 10)) [
      | inl low ↦ (let other : (48 + d == 10) ≡ false = grind (arith, nat_tests) in rw (low, other) refl)
      | inr high ↦ (let other : (87 + d == 10) ≡ false = grind (arith, nat_tests) in rw (high, other) refl)
    ]

glyph_plain : (d : ℕ) → not (digit_glyph false d == 37) ≡ true
glyph_plain d =
    elim (cases_Bool (nat_lt d 10)) [
      | inl low ↦ (let other : (48 + d == 37) ≡ false = grind (arith, nat_tests) in rw (low, other) refl)
      | inr high ↦ (let other : (87 + d == 37) ≡ false = grind (arith, nat_tests) in rw (high, other) refl)
    ]

onto_one_line : (k n : ℕ) (acc : List ℕ) → is_one_line acc ≡ true → is_one_line (digits_onto k 10 false n acc) ≡ true
onto_one_line zero n acc one = one
onto_one_line (suc k) n acc one =
    let next : is_one_line (digit_glyph false (n % 10) ∷ acc) ≡ true =
    both (not (digit_glyph false (n % 10) == 10)) (is_one_line acc) (glyph_no_end (n % 10)) one in
    elim (cases_Bool (n / 10 == 0)) [
      | inl last ↦ rw last next
      | inr more ↦ rw more (onto_one_line k (n / 10) (digit_glyph false (n % 10) ∷ acc) next)
    ]

onto_plain : (k n : ℕ) (acc : List ℕ) → begins_plain acc ≡ true → begins_plain (digits_onto k 10 false n acc) ≡ true
onto_plain zero n acc opens = opens
onto_plain (suc k) n acc opens =
    elim (cases_Bool (n / 10 == 0)) [
      | inl last ↦ rw last (glyph_plain (n % 10))
      | inr more ↦ rw more (onto_plain k (n / 10) (digit_glyph false (n % 10) ∷ acc) (glyph_plain (n % 10)))
    ]

some_plain : (k n : ℕ) → begins_plain (digits_onto (suc k) 10 false n []) ≡ true
some_plain k n =
    elim (cases_Bool (n / 10 == 0)) [
      | inl last ↦ rw last (glyph_plain (n % 10))
      | inr more ↦ rw more (onto_plain k (n / 10) (digit_glyph false (n % 10) ∷ []) (glyph_plain (n % 10)))
    ]

pub decimal_one_line : (n : ℕ) → is_one_line (decimal n) ≡ true
unfolding digits
decimal_one_line n = onto_one_line 64 n [] refl

pub decimal_plain : (n : ℕ) → begins_plain (decimal n) ≡ true
unfolding digits
decimal_plain n = some_plain 63 n

pub signed_one_line : (z : ℤ) → is_one_line (signed_decimal z) ≡ true
signed_one_line (pos n) = decimal_one_line n
signed_one_line (negsuc n) = decimal_one_line (suc n)
