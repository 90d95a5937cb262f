-- What the limits say of a token's text.
use Rattle.std.proofs.Common.{ℕ, ◌<◌, ◌≤◌, ◌^◌, List, [], ◌∷◌, inl, inr, ◌||◌, ◌==◌, nat_lt, length, take, sym, subst, arith}
use Rattle.std.specs.Char.{is_ascii_digit}
use Rattle.std.proofs.lemmas.Bool.{cases_Bool, or_parts}
use Rattle.std.proofs.lemmas.Bool.Decides.{nat_tests}
use Rattle.sot_text.specs.declared.token.Kind.{Kind}
use Rattle.sot_text.specs.declared.token.Kind.TheVariants.{Name, Keyword, Number, Sign}
use Rattle.sot_text.specs.declared.lexeme.Front.{Front}
use Rattle.sot_text.specs.declared.lexeme.Front.TheVariants.{Token}
use Rattle.sot_text.specs.Lexeme.{begins_word, word_len, decimals_of, mantissa_of, is_keyword, sign_len, word, number, sign, front, IsTokenText}
use Rattle.sot_text.proofs.Fronts.{front_word, front_number, front_sign}

-- what a kind says of a token's text
abbrev pub Fits : Kind → List ℕ → ℕ → Type 0
Fits Name text n = n ≤ 64
Fits Keyword text n = Unit {0}
Fits Number text n = (mantissa_of text ≤ 10 ^ 12) × (decimals_of text ≤ 6)
Fits Sign text n = Unit {0}

-- a token that stands at the front of a text and has this length
FitsFront : List ℕ → Front → Type 0
FitsFront text (Token kind n) = Fits kind text n
FitsFront text _ = Unit {0}

word_fits : (text bs : List ℕ) → FitsFront bs (word text)
unfolding FitsFront
word_fits text bs =
    elim (cases_Bool (is_keyword text)) [
      | inl key ↦ rw key tt
      | inr name ↦
          elim (cases_Bool (nat_lt 64 (length text))) [
            | inl long ↦ rw (name, long) tt
            | inr short ↦ (let le : length text ≤ 64 = grind (arith, nat_tests) in rw (name, short) le)
          ]
    ]

number_fits : (bs : List ℕ) → FitsFront bs (number bs)
unfolding FitsFront
number_fits bs =
    elim (cases_Bool (nat_lt 6 (decimals_of bs) || nat_lt (10 ^ 12) (mantissa_of bs))) [
      | inl wide ↦ rw wide tt
      | inr fits ↦
          let parts = or_parts (nat_lt 6 (decimals_of bs)) (nat_lt (10 ^ 12) (mantissa_of bs)) fits in
          let few : decimals_of bs ≤ 6 = grind (arith, nat_tests) in
          let small : mantissa_of bs ≤ 10 ^ 12 = grind (arith, nat_tests) in
          rw fits (small, few)
    ]

sign_fits : (bs : List ℕ) (k : ℕ) → FitsFront bs (sign k)
unfolding FitsFront
sign_fits bs k = elim (cases_Bool (k == 0)) [ inl none ↦ rw none tt | inr some ↦ rw some tt ]

front_fits : (bs : List ℕ) → FitsFront bs (front bs)
unfolding FitsFront
front_fits [] = tt
front_fits (b ∷ bs) =
    let P : Front → Type 0 = λ f. FitsFront (b ∷ bs) f in
    elim (cases_Bool (begins_word b)) [
      | inl is_word ↦ subst P (sym (front_word b bs is_word)) (word_fits (take (word_len (b ∷ bs)) (b ∷ bs)) (b ∷ bs))
      | inr no_word ↦
          elim (cases_Bool (is_ascii_digit b)) [
            | inl digit ↦ subst P (sym (front_number b bs no_word digit)) (number_fits (b ∷ bs))
            | inr no_digit ↦ subst P (sym (front_sign b bs no_word no_digit)) (sign_fits (b ∷ bs) (sign_len (b ∷ bs)))
          ]
    ]

pub token_fits : (kind : Kind) (text : List ℕ) → IsTokenText kind text → Fits kind text (length text)
unfolding FitsFront
token_fits kind text is = (let P : Front → Type 0 = λ f. FitsFront text f in subst P is (front_fits text))

pub some_text : (kind : Kind) (text : List ℕ) → IsTokenText kind text → 0 < length text
some_text kind [] is = absurd cc
some_text kind (b ∷ bs) is = omega arith
