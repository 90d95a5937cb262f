-- The numeral of a number is a number token, and reading it gives the number and its decimals back.
use Rattle.std.proofs.Common.{◌≡◌, ℕ, zero, suc, ◌+◌, ◌-◌, ◌*◌, ◌/◌, ◌%◌, ◌^◌, ◌<◌, ◌≤◌, ◌==◌, ◌||◌, nat_lt, List, [], ◌∷◌, ◌++◌, true, false, cond, inl, inr}
use Rattle.std.proofs.Common.{length, take, drop, refl, sym, ap, ap₂, ◌∙◌, subst, arith}
use Rattle.std.specs.Char.{is_ascii_digit}
use Rattle.std.specs.Fmt.{decimal}
use Rattle.std.specs.List.{prefix_len}
use Rattle.std.proofs.lemmas.Bool.{cases_Bool, cond-true, cond-false}
use Rattle.std.proofs.lemmas.Bool.Decides.{nat_tests}
use Rattle.std.proofs.lemmas.Fmt.{decimal_by_steps}
use Rattle.std.proofs.lemmas.List.{length-append, append-nil, drop-drop}
use Rattle.std.proofs.lemmas.List.Sums.{fold-append}
use Rattle.std.proofs.lemmas.List.Folds.{prefix_len-append}
use Rattle.std.proofs.Math.Nat.{div-div-eq-div-mul, pow-succ', div-le_self}
use Rattle.std.proofs.Math.Seq.{take-append_seam, drop-append_seam, take-length, drop-length}
use Rattle.sot_text.specs.declared.token.Kind.TheVariants.{Number}
use Rattle.sot_text.specs.declared.lexeme.Front.TheVariants.{Token}
use Rattle.sot_text.specs.Lexeme.{begins_word, digits_len, decimals_len, decimals_of, mantissa_of, number_len, with_digits, value, sized, IsTokenText}
use Rattle.sot_text.proofs.Fronts.{front_number}
use Rattle.sot_print.specs.Leaves.{last_digits, numeral}

-- digits that write a number
record IsDecimal (n : ℕ) (ds : List ℕ) : Type 0 where
  some : 0 < length ds
  digits : digits_len ds ≡ length ds
  means : value ds ≡ n

digit_is : (d : ℕ) → d < 10 → is_ascii_digit (48 + d) ≡ true
digit_is d low = grind (arith, nat_tests)

-- one more digit
more_len : (ds : List ℕ) (d : ℕ) → d < 10 → digits_len ds ≡ length ds → digits_len (ds ++ (48 + d) ∷ []) ≡ length ds + 1
more_len ds d low all =
    let same : prefix_len is_ascii_digit ds == length ds ≡ true = grind (arith, nat_tests, all) in
    let one : digits_len ((48 + d) ∷ []) ≡ 1 = cond-true (is_ascii_digit (48 + d)) (1 + 0) 0 (digit_is d low) in
    prefix_len-append is_ascii_digit ds ((48 + d) ∷ []) ∙ cond-true (prefix_len is_ascii_digit ds == length ds) _ _ same ∙ ap (λ n. length ds + n) one

more_value : (n : ℕ) (ds : List ℕ) (d : ℕ) → with_digits n (ds ++ (48 + d) ∷ []) ≡ 10 * with_digits n ds + d
more_value n ds d =
    let last : 10 * with_digits n ds + (48 + d - 48) ≡ 10 * with_digits n ds + d = omega arith in
    fold-append (λ m c. 10 * m + (c - 48)) n ds ((48 + d) ∷ []) ∙ last

one_digit : (n : ℕ) → n < 10 → IsDecimal n ((48 + n) ∷ [])
one_digit n low =
    let one : digits_len ((48 + n) ∷ []) ≡ 1 = cond-true (is_ascii_digit (48 + n)) (1 + 0) 0 (digit_is n low) in
    let means : 10 * 0 + (48 + n - 48) ≡ n = omega arith in
    record { some = omega arith; digits = one; means = means }

more_digits : (n : ℕ) (ds : List ℕ) → 10 ≤ n → IsDecimal (n / 10) ds → IsDecimal n (ds ++ (48 + n % 10) ∷ [])
more_digits n ds high is =
    let low : n % 10 < 10 = omega arith in
    let len : length (ds ++ (48 + n % 10) ∷ []) ≡ length ds + 1 = length-append ds ((48 + n % 10) ∷ []) in
    let sum : 10 * value ds + n % 10 ≡ n = omega (arith, is.means) in
    record {
      some = omega (arith, len);
      digits = more_len ds (n % 10) low is.digits ∙ sym len;
      means = more_value 0 ds (n % 10) ∙ sum;
    }

decimal_is : (n : ℕ) → n < 2 ^ 64 → IsDecimal n (decimal n)
decimal_is = decimal_by_steps IsDecimal one_digit more_digits

-- the decimals of a number
last_len : (count n : ℕ) → length (last_digits count n) ≡ count
last_len zero n = refl
last_len (suc count) n = length-append (last_digits count (n / 10)) ((48 + n % 10) ∷ []) ∙ ap (λ k. k + 1) (last_len count (n / 10)) ∙ omega arith

last_are_digits : (count n : ℕ) → digits_len (last_digits count n) ≡ length (last_digits count n)
last_are_digits zero n = refl
last_are_digits (suc count) n =
    let low : n % 10 < 10 = omega arith in
    more_len (last_digits count (n / 10)) (n % 10) low (last_are_digits count (n / 10)) ∙ sym (length-append (last_digits count (n / 10)) ((48 + n % 10) ∷ []))

-- digits behind a whole part
last_value : (count n : ℕ) → with_digits (n / 10 ^ count) (last_digits count n) ≡ n
last_value zero n = omega arith
last_value (suc count) n =
    let shifted : n / 10 ^ suc count ≡ n / 10 / 10 ^ count = ap (λ m. n / m) (pow-succ' 10 count) ∙ sym (div-div-eq-div-mul n 10 (10 ^ count)) in
    let sum : 10 * (n / 10) + n % 10 ≡ n = omega arith in
    ap (λ m. with_digits m (last_digits (suc count) n)) shifted
    ∙ more_value (n / 10 / 10 ^ count) (last_digits count (n / 10)) (n % 10)
    ∙ ap (λ m. 10 * m + n % 10) (last_value count (n / 10)) ∙ sum

-- a number is read back from its numeral
pub record IsNumeral (mantissa scale : ℕ) (text : List ℕ) : Type 0 where
  pub mantissa_is : mantissa_of text ≡ mantissa
  pub decimals_are : decimals_of text ≡ scale
  pub length_is : number_len text ≡ length text
  pub some : 0 < digits_len text

-- a whole number
whole_read : (m : ℕ) (ds : List ℕ) → IsDecimal m ds → IsNumeral m 0 ds
whole_read m ds is =
    let behind : decimals_of ds ≡ 0 = ap (λ n. decimals_len (drop n ds)) is.digits ∙ ap decimals_len (drop-length ds) in
    record {
      mantissa_is =
          ap (λ n. value (take n ds ++ take (decimals_of ds) (drop (n + 1) ds))) is.digits
          ∙ ap (λ d. value (take (length ds) ds ++ take d (drop (length ds + 1) ds))) behind
          ∙ ap value (append-nil (take (length ds) ds) ∙ take-length ds) ∙ is.means;
      decimals_are = behind;
      length_is = ap (λ d. cond (d == 0) (digits_len ds) (digits_len ds + 1 + d)) behind ∙ is.digits;
      some = omega (arith, is.digits, is.some);
    }

-- digits, a point and decimals
pointed_read : (m k : ℕ) (ds es : List ℕ) → IsDecimal m ds → digits_len es ≡ length es → length es ≡ suc k
    → IsNumeral (with_digits m es) (suc k) (ds ++ (46 ∷ es))
pointed_read m k ds es is all len =
    let text : List ℕ = ds ++ (46 ∷ es) in
    let same : prefix_len is_ascii_digit ds == length ds ≡ true = grind (arith, nat_tests, is.digits) in
    let whole : digits_len text ≡ length ds = prefix_len-append is_ascii_digit ds (46 ∷ es) ∙ cond-true (prefix_len is_ascii_digit ds == length ds) _ _ same
    ∙ omega arith in
    let behind : decimals_of text ≡ suc k = ap (λ n. decimals_len (drop n text)) whole ∙ ap decimals_len (drop-append_seam ds (46 ∷ es)) ∙ all ∙ len in
    let back : drop (length ds + 1) text ≡ es = sym (drop-drop 1 (length ds) text) ∙ ap (λ xs. drop 1 xs) (drop-append_seam ds (46 ∷ es)) in
    let some : suc k == 0 ≡ false = grind (arith, nat_tests) in
    record {
      mantissa_is =
          ap (λ n. value (take n text ++ take (decimals_of text) (drop (n + 1) text))) whole
          ∙ ap (λ d. value (take (length ds) text ++ take d (drop (length ds + 1) text))) (behind ∙ sym len)
          ∙ ap₂ (λ front xs. value (front ++ take (length es) xs)) (take-append_seam ds (46 ∷ es)) back
          ∙ ap (λ xs. value (ds ++ xs)) (take-length es)
          ∙ fold-append (λ n c. 10 * n + (c - 48)) 0 ds es
          ∙ ap (λ n. with_digits n es) is.means;
      decimals_are = behind;
      length_is =
          ap₂ (λ d w. cond (d == 0) w (w + 1 + d)) behind whole ∙ cond-false (suc k == 0) _ _ some
          ∙ omega (arith, len, length-append ds (46 ∷ es));
      some = omega (arith, whole, is.some);
    }

pub numeral_read : (m s : ℕ) → m < 2 ^ 64 → IsNumeral m s (numeral m s)
numeral_read m zero fits = whole_read m (decimal m) (decimal_is m fits)
numeral_read m (suc k) fits =
    let some : suc k == 0 ≡ false = grind (arith, nat_tests) in
    let P : List ℕ → Type 0 = λ text. IsNumeral m (suc k) text in
    let Q : ℕ → Type 0 = λ n. IsNumeral n (suc k) (decimal (m / 10 ^ suc k) ++ (46 ∷ last_digits (suc k) m)) in
    let small : m / 10 ^ suc k < 2 ^ 64 = omega (arith, fits, div-le_self m (10 ^ suc k)) in
    let read : IsNumeral (with_digits (m / 10 ^ suc k) (last_digits (suc k) m)) (suc k) (decimal (m / 10 ^ suc k) ++ (46 ∷ last_digits (suc k) m)) =
    pointed_read (m / 10 ^ suc k) k (decimal (m / 10 ^ suc k)) (last_digits (suc k) m) (decimal_is (m / 10 ^ suc k) small) (last_are_digits (suc k) m)
    (last_len (suc k) m) in
    subst P (sym (cond-false (suc k == 0) _ _ some)) (subst Q (last_value (suc k) m) read)

-- a numeral within the limits is a token
digit_no_word : (b : ℕ) → is_ascii_digit b ≡ true → begins_word b ≡ false
digit_no_word b digit = grind (arith, nat_tests)

sized_fits : (d m n : ℕ) → d ≤ 6 → m ≤ 10 ^ 12 → sized d m n ≡ Token Number n
sized_fits d m n few small =
    let few_is : nat_lt 6 d ≡ false = grind (arith, nat_tests) in
    let small_is : nat_lt (10 ^ 12) m ≡ false = grind (arith, nat_tests) in
    cond-false (nat_lt 6 d || nat_lt (10 ^ 12) m) _ _ (ap₂ (λ a b. a || b) few_is small_is)

pub numeral_token : (m s : ℕ) (text : List ℕ) → m ≤ 10 ^ 12 → s ≤ 6 → IsNumeral m s text → IsTokenText Number text
numeral_token m s [] small few is = absurd (omega (arith, is.some))
numeral_token m s (b ∷ bs) small few is =
    elim (cases_Bool (is_ascii_digit b)) [
      | inl digit ↦
          front_number b bs (digit_no_word b digit) digit
          ∙ sized_fits (decimals_of (b ∷ bs)) (mantissa_of (b ∷ bs)) (number_len (b ∷ bs)) (omega (arith, is.decimals_are, few))
          (omega (arith, is.mantissa_is, small))
          ∙ ap (λ n. Token Number n) is.length_is
      | inr other ↦ absurd (omega (arith, is.some, cond-false (is_ascii_digit b) (1 + digits_len bs) 0 other))
    ]
