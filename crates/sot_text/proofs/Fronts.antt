-- A token's text is itself a token, the same one.
use Rattle.std.proofs.Common.{◌≡◌, ℕ, zero, suc, ◌+◌, ◌-◌, ◌<◌, ◌≤◌, ◌^◌, List, [], ◌∷◌, ◌++◌, Bool, true, false, cond, inl, inr, ◌||◌, ◌==◌, nat_lt, length}
use Rattle.std.proofs.Common.{take, drop, slice_index_or, refl, sym, ap, subst, ◌∙◌, arith}
use Rattle.std.specs.List.{prefix_len}
use Rattle.std.specs.Char.{is_ascii_digit}
use Rattle.std.proofs.lemmas.Bool.{cases_Bool, cond-true, cond-false}
use Rattle.std.proofs.lemmas.Bool.Decides.{nat_tests}
use Rattle.std.proofs.lemmas.List.{take-take, length-drop, drop-take}
use Rattle.std.proofs.lemmas.List.Folds.{length-prefix_len}
use Rattle.std.proofs.lemmas.List.Sums.{prefix_len-le-length}
use Rattle.sot_text.specs.declared.token.Kind.{Kind}
use Rattle.sot_text.specs.declared.token.Kind.TheVariants.{Name, Keyword, Number, Sign}
use Rattle.sot_text.specs.declared.lexeme.Front.TheVariants.{Token, BadByte, NameLong, LiteralWide}
use Rattle.sot_text.specs.Lexeme.{begins_word, is_in_word, word_len, digits_len, decimals_len, decimals_of, mantissa_of, number_len, value, is_keyword}
use Rattle.sot_text.specs.Lexeme.{sign_len, word, sized, number, sign, front}
use Rattle.sot_text.specs.Inside.{is_long_sign, is_short_sign, sign_by_two}
use Rattle.sot_text.proofs.Signs.{by_two}

prefix_len-take : (p : ℕ → Bool) (xs : List ℕ) (n : ℕ) → prefix_len p xs ≤ n → prefix_len p (take n xs) ≡ prefix_len p xs
prefix_len-take p xs zero le = omega (arith, le)
prefix_len-take p [] (suc n) le = refl
prefix_len-take p (x ∷ xs) (suc n) le =
    elim (cases_Bool (p x)) [
      | inl passes ↦
          let more : 1 + prefix_len p xs ≤ suc n = subst (λ (b : Bool). cond b (1 + prefix_len p xs) 0 ≤ suc n) passes le in
          ap (λ m. cond (p x) (1 + m) 0) (prefix_len-take p xs n (omega arith))
      | inr fails ↦ rw fails refl
    ]

pub front_word : (b : ℕ) (bs : List ℕ) → begins_word b ≡ true → front (b ∷ bs) ≡ word (take (word_len (b ∷ bs)) (b ∷ bs))
front_word b bs first = cond-true (begins_word b) _ _ first

pub front_number : (b : ℕ) (bs : List ℕ) → begins_word b ≡ false → is_ascii_digit b ≡ true → front (b ∷ bs) ≡ number (b ∷ bs)
front_number b bs no_word first = cond-false (begins_word b) _ _ no_word ∙ cond-true (is_ascii_digit b) _ _ first

pub front_sign : (b : ℕ) (bs : List ℕ) → begins_word b ≡ false → is_ascii_digit b ≡ false → front (b ∷ bs) ≡ sign (sign_len (b ∷ bs))
front_sign b bs no_word no_digit = cond-false (begins_word b) _ _ no_word ∙ cond-false (is_ascii_digit b) _ _ no_digit

-- the same, by the first byte of a text that has one
pub by_word : (bs : List ℕ) → 1 ≤ length bs → begins_word (slice_index_or bs 0 0) ≡ true → front bs ≡ word (take (word_len bs) bs)
by_word [] some first = absurd (omega (arith, some))
by_word (b ∷ bs) some first = front_word b bs first

pub by_number : (bs : List ℕ) → 1 ≤ length bs → begins_word (slice_index_or bs 0 0) ≡ false → is_ascii_digit (slice_index_or bs 0 0) ≡ true
    → front bs ≡ number bs
by_number [] some no_word first = absurd (omega (arith, some))
by_number (b ∷ bs) some no_word first = front_number b bs no_word first

pub by_sign : (bs : List ℕ) → 1 ≤ length bs → begins_word (slice_index_or bs 0 0) ≡ false → is_ascii_digit (slice_index_or bs 0 0) ≡ false
    → front bs ≡ sign (sign_len bs)
by_sign [] some no_word no_digit = absurd (omega (arith, some))
by_sign (b ∷ bs) some no_word no_digit = front_sign b bs no_word no_digit

pub some_sign : (len : ℕ) → 0 < len → sign len ≡ Token Sign len
some_sign len some = cond-false (len == 0) BadByte (Token Sign len) (grind (arith, nat_tests))

-- a token of so many bytes stands at the front, and is the same by itself
pub record IsWhole (bs : List ℕ) (kind : Kind) (len : ℕ) : Type 0 where
  pub some : 0 < len
  pub within : len ≤ length bs
  pub whole : front (take len bs) ≡ Token kind len

token_is : (k l : Kind) (m n : ℕ) → Token k m ≡ Token l n → (k ≡ l) × (m ≡ n)
token_is k l m n e = (cc, cc)

pub word_takes : (text : List ℕ) (kind : Kind) (n : ℕ) → word text ≡ Token kind n → n ≡ length text
word_takes text kind n e =
    elim (cases_Bool (is_keyword text)) [
      | inl key ↦ sym (token_is Keyword kind (length text) n (sym (cond-true (is_keyword text) _ _ key) ∙ e)).1
      | inr name ↦
          elim (cases_Bool (nat_lt 64 (length text))) [
            | inl long ↦ (let never : NameLong (length text) ≡ Token kind n = sym (cond-true (nat_lt 64 (length text)) _ _ long)
                ∙ sym (cond-false (is_keyword text) _ _ name) ∙ e in absurd cc)
            | inr fits ↦ sym (token_is Name kind (length text) n
                (sym (cond-false (nat_lt 64 (length text)) _ _ fits) ∙ sym (cond-false (is_keyword text) _ _ name) ∙ e)).1
          ]
    ]

word_alone : (b : ℕ) (bs : List ℕ) (m : ℕ) → begins_word b ≡ true → word_len (b ∷ bs) ≡ suc m → front (take (suc m) (b ∷ bs)) ≡ word (take (suc m) (b ∷ bs))
word_alone b bs m first len =
    let t : List ℕ = take (suc m) (b ∷ bs) in
    let same : word_len t ≡ suc m = prefix_len-take is_in_word (b ∷ bs) (suc m) (omega (arith, len)) ∙ len in
    front_word b (take m bs) first ∙ ap (λ n. word (take n t)) same ∙ ap word (take-take (suc m) (suc m) (b ∷ bs) (omega arith))

some_word : (b : ℕ) (bs : List ℕ) → begins_word b ≡ true → 0 < word_len (b ∷ bs)
some_word b bs first =
    let inside : is_in_word b ≡ true = rw first refl in
    omega (arith, cond-true (is_in_word b) (1 + word_len bs) 0 inside)

whole_word : (b : ℕ) (bs : List ℕ) (kind : Kind) (n : ℕ) → begins_word b ≡ true → front (b ∷ bs) ≡ Token kind n → IsWhole (b ∷ bs) kind n
whole_word b bs kind n first e =
    let w : ℕ = word_len (b ∷ bs) in
    let is : word (take w (b ∷ bs)) ≡ Token kind n = sym (front_word b bs first) ∙ e in
    let len : n ≡ w = word_takes (take w (b ∷ bs)) kind n is ∙ length-prefix_len is_in_word (b ∷ bs) in
    let some : 0 < w = some_word b bs first in
    let less : w ≡ suc (w - 1) = omega (arith, some) in
    let alone : front (take w (b ∷ bs)) ≡ word (take w (b ∷ bs)) =
    subst (λ (k : ℕ). front (take k (b ∷ bs)) ≡ word (take k (b ∷ bs))) (sym less) (word_alone b bs (w - 1) first less) in
    record {
      some = omega (arith, len, some);
      within = omega (arith, len, prefix_len-le-length is_in_word (b ∷ bs));
      whole = ap (λ (k : ℕ). front (take k (b ∷ bs))) len ∙ alone ∙ is;
    }

drop-take_to : (xs : List ℕ) (i n : ℕ) → i ≤ n → drop i (take n xs) ≡ take (n - i) (drop i xs)
drop-take_to xs i n le =
    let sum : n ≡ i + (n - i) = omega (arith, le) in
    ap (λ k. drop i (take k xs)) sum ∙ drop-take i (n - i) xs

-- how far a number goes behind its whole part
unfoldable pub point_len : ℕ → ℕ
point_len d = cond (d == 0) 0 (1 + d)

pub point_len_some : (e : ℕ) → point_len (suc e) ≡ suc (suc e)
unfolding point_len
point_len_some e =
    let some : suc e == 0 ≡ false = grind (arith, nat_tests) in
    cond-false (suc e == 0) _ _ some ∙ omega arith

decimals_len-take : (ys : List ℕ) (d : ℕ) → decimals_len ys ≡ d → decimals_len (take (point_len d) ys) ≡ d
unfolding point_len
decimals_len-take ys zero is = refl
decimals_len-take [] (suc e) is = absurd (omega (arith, is))
decimals_len-take (y ∷ ys) (suc e) is =
    elim (cases_Bool (y == 46)) [
      | inl point ↦
          let digits : digits_len ys ≡ suc e = sym (cond-true (y == 46) _ _ point) ∙ is in
          ap (λ n. decimals_len (take n (y ∷ ys))) (point_len_some e) ∙ cond-true (y == 46) _ _ point
          ∙ prefix_len-take is_ascii_digit ys (suc e) (omega (arith, digits)) ∙ digits
      | inr other ↦ absurd (omega (arith, sym (cond-false (y == 46) _ _ other) ∙ is))
    ]

decimals_within : (ys : List ℕ) → point_len (decimals_len ys) ≤ length ys
unfolding point_len
decimals_within [] = omega arith
decimals_within (y ∷ ys) =
    elim (cases_Bool (y == 46)) [
      | inl point ↦
          let is : decimals_len (y ∷ ys) ≡ digits_len ys = cond-true (y == 46) _ _ point in
          let short = prefix_len-le-length is_ascii_digit ys in
          subst (λ (d : ℕ). point_len d ≤ length (y ∷ ys)) (sym is) (grind (arith, nat_tests, short))
      | inr other ↦
          let is : decimals_len (y ∷ ys) ≡ 0 = cond-false (y == 46) _ _ other in
          subst (λ (d : ℕ). point_len d ≤ length (y ∷ ys)) (sym is) (omega arith)
    ]

pub number_len_is : (xs : List ℕ) → number_len xs ≡ digits_len xs + point_len (decimals_of xs)
unfolding point_len
number_len_is xs = grind (arith, nat_tests)

number_within : (xs : List ℕ) → number_len xs ≤ length xs
number_within xs =
    omega (arith, number_len_is xs, decimals_within (drop (digits_len xs) xs), length-drop (digits_len xs) xs, prefix_len-le-length is_ascii_digit xs)

-- a number by itself has the same parts
digits_len-take : (xs : List ℕ) → digits_len (take (number_len xs) xs) ≡ digits_len xs
digits_len-take xs = prefix_len-take is_ascii_digit xs (number_len xs) (omega (arith, number_len_is xs))

decimals_of-take : (xs : List ℕ) → decimals_of (take (number_len xs) xs) ≡ decimals_of xs
decimals_of-take xs =
    let w : ℕ = digits_len xs in
    let n : ℕ = number_len xs in
    let behind : n - w ≡ point_len (decimals_of xs) = omega (arith, number_len_is xs) in
    ap (λ k. decimals_len (drop k (take n xs))) (digits_len-take xs)
    ∙ ap decimals_len (drop-take_to xs w n (omega (arith, number_len_is xs)))
    ∙ ap (λ k. decimals_len (take k (drop w xs))) behind
    ∙ decimals_len-take (drop w xs) (decimals_of xs) refl

decimals-take : (xs : List ℕ) → take (decimals_of xs) (drop (digits_len xs + 1) (take (number_len xs) xs)) ≡ take (decimals_of xs) (drop (digits_len xs + 1) xs)
unfolding point_len
decimals-take xs =
    let w : ℕ = digits_len xs in
    let n : ℕ = number_len xs in
    let d : ℕ = decimals_of xs in
    elim (cases_Bool (d == 0)) [
      | inl none ↦ (let is : d ≡ 0 = grind (arith, nat_tests) in rw is refl)
      | inr some ↦
          let len : n ≡ w + 1 + d = cond-false (d == 0) _ _ some in
          let behind : n - (w + 1) ≡ d = omega (arith, len) in
          ap (take d) (drop-take_to xs (w + 1) n (omega (arith, len)))
          ∙ ap (λ k. take d (take k (drop (w + 1) xs))) behind
          ∙ take-take d d (drop (w + 1) xs) (omega arith)
    ]

mantissa_of-take : (xs : List ℕ) → mantissa_of (take (number_len xs) xs) ≡ mantissa_of xs
mantissa_of-take xs =
    let n : ℕ = number_len xs in
    ap (λ w. value (take w (take n xs) ++ take (decimals_of (take n xs)) (drop (w + 1) (take n xs)))) (digits_len-take xs)
    ∙ ap (λ d. value (take (digits_len xs) (take n xs) ++ take d (drop (digits_len xs + 1) (take n xs)))) (decimals_of-take xs)
    ∙ ap (λ front. value (front ++ take (decimals_of xs) (drop (digits_len xs + 1) (take n xs))))
    (take-take (digits_len xs) n xs (omega (arith, number_len_is xs)))
    ∙ ap (λ back. value (take (digits_len xs) xs ++ back)) (decimals-take xs)

number_len-take : (xs : List ℕ) → number_len (take (number_len xs) xs) ≡ number_len xs
number_len-take xs =
    number_len_is (take (number_len xs) xs) ∙ ap (λ w. w + point_len (decimals_of (take (number_len xs) xs))) (digits_len-take xs)
    ∙ ap (λ d. digits_len xs + point_len d) (decimals_of-take xs) ∙ sym (number_len_is xs)

pub number-take : (xs : List ℕ) → number (take (number_len xs) xs) ≡ number xs
number-take xs =
    ap (λ d. sized d (mantissa_of (take (number_len xs) xs)) (number_len (take (number_len xs) xs))) (decimals_of-take xs)
    ∙ ap (λ m. sized (decimals_of xs) m (number_len (take (number_len xs) xs))) (mantissa_of-take xs)
    ∙ ap (λ n. sized (decimals_of xs) (mantissa_of xs) n) (number_len-take xs)

pub sized_takes : (d m n len : ℕ) (kind : Kind) → sized d m n ≡ Token kind len → len ≡ n
sized_takes d m n len kind e =
    elim (cases_Bool (nat_lt 6 d || nat_lt (10 ^ 12) m)) [
      | inl wide ↦ (let never : LiteralWide n ≡ Token kind len = sym (cond-true (nat_lt 6 d || nat_lt (10 ^ 12) m) _ _ wide) ∙ e in absurd cc)
      | inr fits ↦ sym (token_is Number kind n len (sym (cond-false (nat_lt 6 d || nat_lt (10 ^ 12) m) _ _ fits) ∙ e)).1
    ]

some_number : (b : ℕ) (bs : List ℕ) → is_ascii_digit b ≡ true → 0 < number_len (b ∷ bs)
some_number b bs first = omega (arith, number_len_is (b ∷ bs), cond-true (is_ascii_digit b) (1 + digits_len bs) 0 first)

number_alone : (b : ℕ) (bs : List ℕ) (m : ℕ) → begins_word b ≡ false → is_ascii_digit b ≡ true → number_len (b ∷ bs) ≡ suc m
    → front (take (suc m) (b ∷ bs)) ≡ number (b ∷ bs)
number_alone b bs m no_word first len =
    front_number b (take m bs) no_word first ∙ ap (λ n. number (take n (b ∷ bs))) (sym len) ∙ number-take (b ∷ bs)

whole_number : (b : ℕ) (bs : List ℕ) (kind : Kind) (n : ℕ) → begins_word b ≡ false → is_ascii_digit b ≡ true → front (b ∷ bs) ≡ Token kind n
    → IsWhole (b ∷ bs) kind n
whole_number b bs kind n no_word first e =
    let xs : List ℕ = b ∷ bs in
    let is : number xs ≡ Token kind n = sym (front_number b bs no_word first) ∙ e in
    let len : n ≡ number_len xs = sized_takes (decimals_of xs) (mantissa_of xs) (number_len xs) n kind is in
    let some : 0 < number_len xs = some_number b bs first in
    let less : number_len xs ≡ suc (number_len xs - 1) = omega (arith, some) in
    let alone : front (take (number_len xs) xs) ≡ number xs = ap (λ k. front (take k xs)) less ∙ number_alone b bs (number_len xs - 1) no_word first less in
    record {
      some = omega (arith, len, some);
      within = omega (arith, len, number_within xs);
      whole = ap (λ k. front (take k xs)) len ∙ alone ∙ is;
    }

pub sign_takes : (k n : ℕ) (kind : Kind) → sign k ≡ Token kind n → (n ≡ k) × (0 < k) × (Token kind n ≡ Token Sign k)
sign_takes k n kind e =
    elim (cases_Bool (k == 0)) [
      | inl none ↦ (let never : BadByte ≡ Token kind n = sym (cond-true (k == 0) _ _ none) ∙ e in absurd cc)
      | inr some ↦
          let is : Token Sign k ≡ Token kind n = sym (cond-false (k == 0) _ _ some) ∙ e in
          (sym (token_is Sign kind k n is).1, grind (arith, nat_tests), sym is)
    ]

-- a sign by itself
record IsSignWhole (xs : List ℕ) (k : ℕ) : Type 0 where
  within : k ≤ length xs
  same : sign_by_two (take k xs) ≡ k

one_sign : (a : ℕ) (bs : List ℕ) (k : ℕ) → k ≡ cond (is_short_sign a) 1 0 → IsSignWhole (a ∷ bs) k
one_sign a bs k is =
    elim (cases_Bool (is_short_sign a)) [
      | inl short ↦
          let one : k ≡ 1 = is ∙ cond-true (is_short_sign a) 1 0 short in
          subst (λ (n : ℕ). IsSignWhole (a ∷ bs) n) (sym one) (record { within = omega arith; same = cond-true (is_short_sign a) 1 0 short })
      | inr none ↦
          let zero_is : k ≡ 0 = is ∙ cond-false (is_short_sign a) 1 0 none in
          subst (λ (n : ℕ). IsSignWhole (a ∷ bs) n) (sym zero_is) (record { within = omega arith; same = refl })
    ]

sign_by_two-take : (xs : List ℕ) → IsSignWhole xs (sign_by_two xs)
sign_by_two-take [] = record { within = omega arith; same = refl }
sign_by_two-take (a ∷ []) = one_sign a [] (sign_by_two (a ∷ [])) refl
sign_by_two-take (a ∷ b ∷ bs) =
    elim (cases_Bool (is_long_sign a b)) [
      | inl long ↦
          let two : sign_by_two (a ∷ b ∷ bs) ≡ 2 = cond-true (is_long_sign a b) _ _ long in
          subst (λ (n : ℕ). IsSignWhole (a ∷ b ∷ bs) n) (sym two) (record { within = omega arith; same = cond-true (is_long_sign a b) _ _ long })
      | inr short ↦ one_sign a (b ∷ bs) (sign_by_two (a ∷ b ∷ bs)) (cond-false (is_long_sign a b) _ _ short)
    ]

sign_alone : (b : ℕ) (bs : List ℕ) (m : ℕ) → begins_word b ≡ false → is_ascii_digit b ≡ false → sign_by_two (b ∷ bs) ≡ suc m
    → front (take (suc m) (b ∷ bs)) ≡ sign (suc m)
sign_alone b bs m no_word no_digit len =
    let same : sign_by_two (take (suc m) (b ∷ bs)) ≡ suc m = ap (λ k. sign_by_two (take k (b ∷ bs))) (sym len) ∙ (sign_by_two-take (b ∷ bs)).same ∙ len in
    front_sign b (take m bs) no_word no_digit ∙ ap sign (sym (by_two (take (suc m) (b ∷ bs))) ∙ same)

whole_sign : (b : ℕ) (bs : List ℕ) (kind : Kind) (n : ℕ) → begins_word b ≡ false → is_ascii_digit b ≡ false → front (b ∷ bs) ≡ Token kind n
    → IsWhole (b ∷ bs) kind n
whole_sign b bs kind n no_word no_digit e =
    let xs : List ℕ = b ∷ bs in
    let k : ℕ = sign_by_two xs in
    let is : sign k ≡ Token kind n = ap sign (by_two xs) ∙ sym (front_sign b bs no_word no_digit) ∙ e in
    let takes = sign_takes k n kind is in
    let less : k ≡ suc (k - 1) = omega (arith, takes.1) in
    let alone : front (take k xs) ≡ sign k = subst (λ (j : ℕ). front (take j xs) ≡ sign j) (sym less) (sign_alone b bs (k - 1) no_word no_digit less) in
    record {
      some = omega (arith, takes.0, takes.1);
      within = omega (arith, takes.0, (sign_by_two-take xs).within);
      whole = ap (λ j. front (take j xs)) takes.0 ∙ alone ∙ is;
    }

-- a token at the front has some bytes, which are in the text and a token by themselves
pub token_whole : (bs : List ℕ) (kind : Kind) (n : ℕ) → front bs ≡ Token kind n → IsWhole bs kind n
token_whole [] kind n e = absurd cc
token_whole (b ∷ bs) kind n e =
    elim (cases_Bool (begins_word b)) [
      | inl is_word ↦ whole_word b bs kind n is_word e
      | inr no_word ↦
          elim (cases_Bool (is_ascii_digit b)) [
            | inl digit ↦ whole_number b bs kind n no_word digit e
            | inr no_digit ↦ whole_sign b bs kind n no_word no_digit e
          ]
    ]
