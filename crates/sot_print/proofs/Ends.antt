-- A token with something behind it is the same token, unless that goes on with it.
use Rattle.std.proofs.Common.{◌≡◌, ℕ, ◌+◌, ◌<◌, ◌==◌, Bool, true, false, cond, List, [], ◌∷◌, ◌++◌, length, take, drop, inl, inr, refl, sym, ap, ap₂, subst}
use Rattle.std.proofs.Common.{◌∙◌, arith}
use Rattle.std.specs.List.{prefix_len}
use Rattle.std.specs.Char.{is_ascii_digit}
use Rattle.std.proofs.lemmas.Bool.{cases_Bool, cond-true, cond-false}
use Rattle.std.proofs.lemmas.Bool.Decides.{nat_tests}
use Rattle.std.proofs.lemmas.List.{drop-append-le}
use Rattle.std.proofs.lemmas.List.Folds.{prefix_len-append, length-prefix_len}
use Rattle.std.proofs.lemmas.List.Sums.{prefix_len-le-length}
use Rattle.std.proofs.Math.Seq.{take-append_seam, take-length}
use Rattle.sot_text.specs.declared.token.Kind.{Kind}
use Rattle.sot_text.specs.declared.lexeme.Front.TheVariants.{Token, BadByte}
use Rattle.sot_text.specs.Lexeme.{begins_word, is_in_word, is_blank, word_len, digits_len, decimals_len, decimals_of, mantissa_of, number_len, word, number}
use Rattle.sot_text.specs.Lexeme.{sign, front, skipped, IsTokenText}
use Rattle.sot_text.specs.Inside.{is_long_sign, is_short_sign, sign_by_two}
use Rattle.sot_text.proofs.Signs.{by_two}
use Rattle.sot_text.proofs.Fronts.{front_word, front_number, front_sign, word_takes, sized_takes, number-take}

-- nothing behind a token goes on with it
pub record IsEnd (text rest : List ℕ) : Type 0 where
  pub word : word_len rest ≡ 0
  pub digits : digits_len rest ≡ 0
  pub decimals : decimals_len rest ≡ 0
  pub signs : sign_by_two (text ++ rest) ≡ sign_by_two text

prefix_stops : (p : ℕ → Bool) (xs ys : List ℕ) → prefix_len p ys ≡ 0 → prefix_len p (xs ++ ys) ≡ prefix_len p xs
prefix_stops p xs ys none =
    prefix_len-append p xs ys ∙ (
    elim (cases_Bool (prefix_len p xs == length xs)) [
      | inl all ↦ (let same : prefix_len p xs ≡ length xs = grind (arith, nat_tests) in cond-true (prefix_len p xs == length xs) _ _ all ∙ omega arith)
      | inr some ↦ cond-false (prefix_len p xs == length xs) _ _ some
    ])

pub word_goes : (a : ℕ) (as_ rest : List ℕ) (kind : Kind) → begins_word a ≡ true → IsTokenText kind (a ∷ as_) → word_len rest ≡ 0
    → front ((a ∷ as_) ++ rest) ≡ Token kind (length (a ∷ as_))
word_goes a as_ rest kind first is none =
    let text : List ℕ = a ∷ as_ in
    let alone : word (take (word_len text) text) ≡ Token kind (length text) = sym (front_word a as_ first) ∙ is in
    let len : length text ≡ word_len text = word_takes (take (word_len text) text) kind (length text) alone ∙ length-prefix_len is_in_word text in
    let more : word_len (text ++ rest) ≡ length text = prefix_stops is_in_word text rest none ∙ sym len in
    front_word a (as_ ++ rest) first
    ∙ ap (λ n. word (take n (text ++ rest))) more
    ∙ ap word (take-append_seam text rest ∙ sym (ap (λ n. take n text) (sym len) ∙ take-length text))
    ∙ alone

decimals_stop : (ys rest : List ℕ) → digits_len rest ≡ 0 → decimals_len rest ≡ 0 → decimals_len (ys ++ rest) ≡ decimals_len ys
decimals_stop [] rest none flat = flat
decimals_stop (y ∷ ys) rest none flat = ap (λ n. cond (y == 46) n 0) (prefix_stops is_ascii_digit ys rest none)

number_len_stops : (text rest : List ℕ) → digits_len rest ≡ 0 → decimals_len rest ≡ 0 → number_len (text ++ rest) ≡ number_len text
number_len_stops text rest none flat =
    let whole : digits_len (text ++ rest) ≡ digits_len text = prefix_stops is_ascii_digit text rest none in
    let behind : decimals_of (text ++ rest) ≡ decimals_of text =
    ap (λ n. decimals_len (drop n (text ++ rest))) whole
    ∙ ap decimals_len (drop-append-le (digits_len text) text rest (prefix_len-le-length is_ascii_digit text))
    ∙ decimals_stop (drop (digits_len text) text) rest none flat in
    ap₂ (λ d w. cond (d == 0) w (w + 1 + d)) behind whole

number_goes : (a : ℕ) (as_ rest : List ℕ) (kind : Kind) → begins_word a ≡ false → is_ascii_digit a ≡ true → IsTokenText kind (a ∷ as_) → digits_len rest ≡ 0
    → decimals_len rest ≡ 0
    → front ((a ∷ as_) ++ rest) ≡ Token kind (length (a ∷ as_))
number_goes a as_ rest kind no_word first is none flat =
    let text : List ℕ = a ∷ as_ in
    let alone : number text ≡ Token kind (length text) = sym (front_number a as_ no_word first) ∙ is in
    let len : length text ≡ number_len text = sized_takes (decimals_of text) (mantissa_of text) (number_len text) (length text) kind alone in
    let more : number_len (text ++ rest) ≡ length text = number_len_stops text rest none flat ∙ sym len in
    front_number a (as_ ++ rest) no_word first
    ∙ sym (number-take (text ++ rest))
    ∙ ap number (ap (λ n. take n (text ++ rest)) more ∙ take-append_seam text rest)
    ∙ alone

sign_goes : (a : ℕ) (as_ rest : List ℕ) (kind : Kind) → begins_word a ≡ false → is_ascii_digit a ≡ false → IsTokenText kind (a ∷ as_)
    → sign_by_two ((a ∷ as_) ++ rest) ≡ sign_by_two (a ∷ as_)
    → front ((a ∷ as_) ++ rest) ≡ Token kind (length (a ∷ as_))
sign_goes a as_ rest kind no_word no_digit is same =
    let text : List ℕ = a ∷ as_ in
    front_sign a (as_ ++ rest) no_word no_digit
    ∙ ap sign (sym (by_two (text ++ rest)) ∙ same ∙ by_two text)
    ∙ sym (front_sign a as_ no_word no_digit) ∙ is

-- a token and what stands behind it
pub front_goes : (kind : Kind) (text rest : List ℕ) → IsTokenText kind text → IsEnd text rest → front (text ++ rest) ≡ Token kind (length text)
front_goes kind [] rest is ends = absurd cc
front_goes kind (a ∷ as_) rest is ends =
    elim (cases_Bool (begins_word a)) [
      | inl first ↦ word_goes a as_ rest kind first is ends.word
      | inr no_word ↦
          elim (cases_Bool (is_ascii_digit a)) [
            | inl digit ↦ number_goes a as_ rest kind no_word digit is ends.digits ends.decimals
            | inr no_digit ↦ sign_goes a as_ rest kind no_word no_digit is ends.signs
          ]
    ]

-- a byte that no sign begins with
blank_signs : (a b : ℕ) (bs : List ℕ) → is_short_sign a ≡ false → is_long_sign a b ≡ false → sign_by_two (a ∷ b ∷ bs) ≡ 0
blank_signs a b bs short long = cond-false (is_long_sign a b) _ _ long ∙ cond-false (is_short_sign a) _ _ short

no_sign : (a : ℕ) (as_ : List ℕ) → is_short_sign a ≡ false → ((b : ℕ) → is_long_sign a b ≡ false) → sign_by_two (a ∷ as_) ≡ 0
no_sign a [] short long = cond-false (is_short_sign a) _ _ short
no_sign a (b ∷ bs) short long = blank_signs a b bs short (long b)

no_token : (a : ℕ) (as_ : List ℕ) (kind : Kind) (n : ℕ) → begins_word a ≡ false → is_ascii_digit a ≡ false → sign_by_two (a ∷ as_) ≡ 0
    → front (a ∷ as_) ≡ Token kind n → ⊥
no_token a as_ kind n no_word no_digit none is =
    let bad : BadByte ≡ Token kind n = sym (ap sign (sym (by_two (a ∷ as_)) ∙ none)) ∙ sym (front_sign a as_ no_word no_digit) ∙ is in
    cc

-- the first byte of a token is no blank and begins no comment
pub record IsInk (a : ℕ) : Type 0 where
  pub no_comment : (a == 35) ≡ false
  pub no_blank : is_blank a ≡ false

not_this : (c a : ℕ) (as_ : List ℕ) (kind : Kind) → begins_word c ≡ false → is_ascii_digit c ≡ false → ((bs : List ℕ) → sign_by_two (c ∷ bs) ≡ 0)
    → IsTokenText kind (a ∷ as_) → (a == c) ≡ false
not_this c a as_ kind no_word no_digit none is =
    elim (cases_Bool (a == c)) [
      | inl same ↦
          let e : a ≡ c = grind (arith, nat_tests) in
          absurd (no_token c as_ kind (length (c ∷ as_)) no_word no_digit (none as_) (subst (λ (b : ℕ). IsTokenText kind (b ∷ as_)) e is))
      | inr other ↦ other
    ]

pub token_ink : (a : ℕ) (as_ : List ℕ) (kind : Kind) → IsTokenText kind (a ∷ as_) → IsInk a
token_ink a as_ kind is =
    let tab : (a == 9) ≡ false = not_this 9 a as_ kind refl refl (λ bs. no_sign 9 bs refl (λ b. refl)) is in
    let lf : (a == 10) ≡ false = not_this 10 a as_ kind refl refl (λ bs. no_sign 10 bs refl (λ b. refl)) is in
    let cr : (a == 13) ≡ false = not_this 13 a as_ kind refl refl (λ bs. no_sign 13 bs refl (λ b. refl)) is in
    let space : (a == 32) ≡ false = not_this 32 a as_ kind refl refl (λ bs. no_sign 32 bs refl (λ b. refl)) is in
    let hash : (a == 35) ≡ false = not_this 35 a as_ kind refl refl (λ bs. no_sign 35 bs refl (λ b. refl)) is in
    record { no_comment = hash; no_blank = rw (space, tab, cr, lf) refl }

pub nothing_skipped : (kind : Kind) (text rest : List ℕ) → IsTokenText kind text → skipped false (text ++ rest) ≡ 0
nothing_skipped kind [] rest is = absurd cc
nothing_skipped kind (a ∷ as_) rest is =
    let ink = token_ink a as_ kind is in
    cond-false (a == 35) _ _ ink.no_comment ∙ cond-false (is_blank a) _ _ ink.no_blank

-- a byte that is no part of a token ends it
pub blank_ends : (text : List ℕ) (b : ℕ) (bs : List ℕ) → is_in_word b ≡ false → is_ascii_digit b ≡ false → (b == 46) ≡ false
    → ((a : ℕ) → is_long_sign a b ≡ false) → 0 < length text → IsEnd text (b ∷ bs)
blank_ends [] b bs no_word no_digit no_point no_long some = absurd (omega (arith, some))
blank_ends (a ∷ as_) b bs no_word no_digit no_point no_long some = record {
  word = cond-false (is_in_word b) _ _ no_word;
  digits = cond-false (is_ascii_digit b) _ _ no_digit;
  decimals = cond-false (b == 46) _ _ no_point;
  signs = same as_;
}
  where
    same : (as_ : List ℕ) → sign_by_two ((a ∷ as_) ++ (b ∷ bs)) ≡ sign_by_two (a ∷ as_)
    same [] = cond-false (is_long_sign a b) _ _ (no_long a)
    same (c ∷ cs) = refl
