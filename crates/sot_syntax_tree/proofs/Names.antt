-- The bytes of a name are ASCII.
use Rattle.std.proofs.Common.{◌≡◌, ℕ, ◌+◌, ◌<◌, ◌≤◌, ◌==◌, ◌||◌, ◌^◌, true, nat_lt, List, [], ◌∷◌, length, take, inl, inr, refl, sym, subst, ◌∙◌, arith}
use Rattle.std.proofs.Math.Seq.{take-length}
use Rattle.std.specs.List.{prefix_len}
use Rattle.std.specs.Str.{IsAscii, IsUtf8}
use Rattle.std.specs.Char.{is_ascii_digit}
use Rattle.std.proofs.lemmas.Bool.{cases_Bool, cond-true, cond-false}
use Rattle.std.proofs.lemmas.Bool.Decides.{nat_tests}
use Rattle.std.proofs.lemmas.List.Folds.{length-prefix_len}
use Rattle.std.proofs.lemmas.Str.{IsUtf8-from_ascii}
use Rattle.std.proofs.lemmas.Str.Ascii.{IsAscii-nil, IsAscii-cons}
use Rattle.sot_text.specs.declared.token.Kind.TheVariants.{Name, Keyword, Number, Sign}
use Rattle.sot_text.specs.declared.lexeme.Front.TheVariants.{Token, BadByte, NameLong, LiteralWide}
use Rattle.sot_text.specs.Lexeme.{begins_word, is_in_word, word_len, decimals_of, mantissa_of, number_len, sign_len, is_keyword, word, sized, sign, IsTokenText}
use Rattle.sot_text.proofs.Fronts.{front_word, front_number, front_sign}

word_length : (text : List ℕ) (n : ℕ) → word text ≡ Token Name n → n ≡ length text
word_length text n e =
    elim (cases_Bool (is_keyword text)) [
      | inl key ↦ (let never : Token Keyword (length text) ≡ Token Name n = sym (cond-true (is_keyword text) _ _ key) ∙ e in absurd cc)
      | inr other ↦
          let past = sym (cond-false (is_keyword text) _ _ other) in
          elim (cases_Bool (nat_lt 64 (length text))) [
            | inl long ↦ (let never : NameLong (length text) ≡ Token Name n = sym (cond-true (nat_lt 64 (length text)) _ _ long) ∙ past ∙ e in absurd cc)
            | inr fits ↦ (let same : Token Name (length text) ≡ Token Name n = sym (cond-false (nat_lt 64 (length text)) _ _ fits) ∙ past ∙ e in cc)
          ]
    ]

pub number_no_name : (d m k n : ℕ) → sized d m k ≡ Token Name n → ⊥
number_no_name d m k n e =
    elim (cases_Bool (nat_lt 6 d || nat_lt (10 ^ 12) m)) [
      | inl wide ↦ (let never : LiteralWide k ≡ Token Name n = sym (cond-true (nat_lt 6 d || nat_lt (10 ^ 12) m) _ _ wide) ∙ e in cc)
      | inr fits ↦ (let never : Token Number k ≡ Token Name n = sym (cond-false (nat_lt 6 d || nat_lt (10 ^ 12) m) _ _ fits) ∙ e in cc)
    ]

sign_no_name : (k n : ℕ) → sign k ≡ Token Name n → ⊥
sign_no_name k n e =
    elim (cases_Bool (k == 0)) [
      | inl none ↦ (let never : BadByte ≡ Token Name n = sym (cond-true (k == 0) _ _ none) ∙ e in cc)
      | inr some ↦ (let never : Token Sign k ≡ Token Name n = sym (cond-false (k == 0) _ _ some) ∙ e in cc)
    ]

-- a name is one word from end to end
name_word : (text : List ℕ) → IsTokenText Name text → prefix_len is_in_word text ≡ length text
name_word [] is = refl
name_word (b ∷ bs) is =
    elim (cases_Bool (begins_word b)) [
      | inl first ↦ sym (word_length (take (word_len (b ∷ bs)) (b ∷ bs)) (length (b ∷ bs)) (sym (front_word b bs first) ∙ is)
          ∙ length-prefix_len is_in_word (b ∷ bs))
      | inr no_word ↦
          elim (cases_Bool (is_ascii_digit b)) [
            | inl digit ↦ absurd (number_no_name (decimals_of (b ∷ bs)) (mantissa_of (b ∷ bs)) (number_len (b ∷ bs)) _
                (sym (front_number b bs no_word digit) ∙ is))
            | inr no_digit ↦ absurd (sign_no_name (sign_len (b ∷ bs)) _ (sym (front_sign b bs no_word no_digit) ∙ is))
          ]
    ]

small_byte : (b : ℕ) → is_in_word b ≡ true → b < 128
small_byte b is = grind (arith, nat_tests)

words_ascii : (text : List ℕ) → prefix_len is_in_word text ≡ length text → IsAscii text
words_ascii [] e = IsAscii-nil
words_ascii (b ∷ bs) e =
    elim (cases_Bool (is_in_word b)) [
      | inl inside ↦ (let more : 1 + prefix_len is_in_word bs ≡ length (b ∷ bs) = sym (cond-true (is_in_word b) _ _ inside) ∙ e in
          IsAscii-cons b bs (small_byte b inside) (words_ascii bs (omega arith)))
      | inr outside ↦ (let none : 0 ≡ length (b ∷ bs) = sym (cond-false (is_in_word b) _ _ outside) ∙ e in absurd (omega arith))
    ]

pub name_utf8 : (text : List ℕ) → IsTokenText Name text → IsUtf8 text
name_utf8 text is = IsUtf8-from_ascii text (words_ascii text (name_word text is))

-- a name has at most 64 bytes
word_fits : (text : List ℕ) (n : ℕ) → word text ≡ Token Name n → length text ≤ 64
word_fits text n e =
    elim (cases_Bool (is_keyword text)) [
      | inl key ↦ (let never : Token Keyword (length text) ≡ Token Name n = sym (cond-true (is_keyword text) _ _ key) ∙ e in absurd cc)
      | inr other ↦
          let past = sym (cond-false (is_keyword text) _ _ other) in
          elim (cases_Bool (nat_lt 64 (length text))) [
            | inl long ↦ (let never : NameLong (length text) ≡ Token Name n = sym (cond-true (nat_lt 64 (length text)) _ _ long) ∙ past ∙ e in absurd cc)
            | inr fits ↦ grind (arith, nat_tests)
          ]
    ]

name_prefix : (text : List ℕ) → IsTokenText Name text → take (prefix_len is_in_word text) text ≡ text
name_prefix text is = rw (name_word text is) (take-length text)

pub name_fits : (text : List ℕ) → IsTokenText Name text → length text ≤ 64
name_fits [] is = omega arith
name_fits (b ∷ bs) is =
    elim (cases_Bool (begins_word b)) [
      | inl first ↦ (let whole : take (word_len (b ∷ bs)) (b ∷ bs) ≡ b ∷ bs = name_prefix (b ∷ bs) is in
          subst (λ t. length t ≤ 64) whole (word_fits (take (word_len (b ∷ bs)) (b ∷ bs)) (length (b ∷ bs)) (sym (front_word b bs first) ∙ is)))
      | inr no_word ↦
          elim (cases_Bool (is_ascii_digit b)) [
            | inl digit ↦ absurd (number_no_name (decimals_of (b ∷ bs)) (mantissa_of (b ∷ bs)) (number_len (b ∷ bs)) _
                (sym (front_number b bs no_word digit) ∙ is))
            | inr no_digit ↦ absurd (sign_no_name (sign_len (b ∷ bs)) _ (sym (front_sign b bs no_word no_digit) ∙ is))
          ]
    ]
