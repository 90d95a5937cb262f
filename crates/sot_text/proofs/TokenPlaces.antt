-- No line ends in a token: the place behind it is so many columns further.
use Rattle.std.proofs.Common.{◌≡◌, ℕ, zero, suc, ◌+◌, List, [], ◌∷◌, Bool, true, false, cond, ◌&&◌, ◌==◌, inl, inr, take, drop, refl, sym, ap, ◌∙◌, arith}
use Rattle.std.specs.List.{prefix_len}
use Rattle.std.specs.Char.{is_ascii_digit}
use Rattle.std.proofs.Math.Seq.{take-add}
use Rattle.std.proofs.lemmas.Bool.{cases_Bool, cond-true, cond-false}
use Rattle.std.proofs.lemmas.Bool.Decides.{nat_tests}
use Rattle.std.proofs.lemmas.List.Folds.{length-prefix_len}
use Rattle.sot_text.specs.declared.token.Kind.{Kind}
use Rattle.sot_text.specs.declared.lexeme.Front.TheVariants.{Token}
use Rattle.sot_text.specs.declared.token.Span.{Span}
use Rattle.sot_text.specs.Place.{after}
use Rattle.sot_text.specs.Lexeme.{begins_word, is_in_word, word_len, digits_len, decimals_len, decimals_of, number_len, mantissa_of, word, number, sign, front}
use Rattle.sot_text.specs.Inside.{is_long_sign, is_short_sign, sign_by_two, further}
use Rattle.sot_text.proofs.Signs.{by_two, and_false}
use Rattle.sot_text.proofs.Places.{after-append}
use Rattle.sot_text.proofs.FirstLines.{byte_goes_on, further-add, further-none}
use Rattle.sot_text.proofs.Fronts.{front_word, front_number, front_sign, word_takes, sized_takes, sign_takes, point_len, point_len_some, number_len_is}

-- a byte that passes a test which a line end does not
no_end : (test : ℕ → Bool) (b : ℕ) → test 10 ≡ false → test b ≡ true → (b == 10) ≡ false
no_end test b fails passes =
    elim (cases_Bool (b == 10)) [
      | inl end ↦ (let is : b ≡ 10 = grind (arith, nat_tests) in let never : true ≡ false = sym passes ∙ ap test is ∙ fails in absurd cc)
      | inr other ↦ other
    ]

-- one byte, and then bytes that end no line
first_on : (p : Span) (b n : ℕ) (bs : List ℕ) → (b == 10) ≡ false → after (further p 1) bs ≡ further (further p 1) n → after p (b ∷ bs) ≡ further p (suc n)
first_on p b n bs other more = ap (λ (q : Span). after q bs) (byte_goes_on p b other) ∙ more ∙ further-add p 1 n (suc n) (omega arith)

prefix_on : (test : ℕ → Bool) (p : Span) (bs : List ℕ) → test 10 ≡ false → after p (take (prefix_len test bs) bs) ≡ further p (prefix_len test bs)
prefix_on test p [] fails = further-none p
prefix_on test p (b ∷ bs) fails =
    elim (cases_Bool (test b)) [
      | inl passes ↦
          let n : ℕ = prefix_len test bs in
          let one : 1 + n ≡ suc n = omega arith in
          let len : prefix_len test (b ∷ bs) ≡ suc n = cond-true (test b) _ _ passes ∙ one in
          ap (λ (k : ℕ). after p (take k (b ∷ bs))) len
          ∙ first_on p b n (take n bs) (no_end test b fails passes) (prefix_on test (further p 1) bs fails)
          ∙ ap (further p) (sym len)
      | inr stops ↦ rw stops (further-none p)
    ]

point_on : (p : Span) (ys : List ℕ) (d : ℕ) → decimals_len ys ≡ d → after p (take (point_len d) ys) ≡ further p (point_len d)
unfolding point_len
point_on p ys zero is = further-none p
point_on p [] (suc e) is = absurd (omega (arith, is))
point_on p (y ∷ ys) (suc e) is =
    elim (cases_Bool (y == 46)) [
      | inl point ↦
          let digits : digits_len ys ≡ suc e = sym (cond-true (y == 46) _ _ point) ∙ is in
          let other : (y == 10) ≡ false = grind (arith, nat_tests) in
          let rest : after (further p 1) (take (suc e) ys) ≡ further (further p 1) (suc e) = ap (λ (n : ℕ). after (further p 1) (take n ys)) (sym digits)
          ∙ prefix_on is_ascii_digit (further p 1) ys refl ∙ ap (further (further p 1)) digits in
          ap (λ (n : ℕ). after p (take n (y ∷ ys))) (point_len_some e) ∙ first_on p y (suc e) (take (suc e) ys) other rest
          ∙ ap (further p) (sym (point_len_some e))
      | inr other ↦ absurd (omega (arith, sym (cond-false (y == 46) _ _ other) ∙ is))
    ]

number_on : (p : Span) (bs : List ℕ) → after p (take (number_len bs) bs) ≡ further p (number_len bs)
number_on p bs =
    let w : ℕ = digits_len bs in
    let n : ℕ = point_len (decimals_of bs) in
    ap (λ (k : ℕ). after p (take k bs)) (number_len_is bs)
    ∙ ap (after p) (take-add w n bs)
    ∙ sym (after-append p (take w bs) (take n (drop w bs)))
    ∙ ap (λ (q : Span). after q (take n (drop w bs))) (prefix_on is_ascii_digit p bs refl)
    ∙ point_on (further p w) (drop w bs) (decimals_of bs) refl
    ∙ further-add p w n (number_len bs) (sym (number_len_is bs))

short_on : (p : Span) (a k : ℕ) (bs : List ℕ) → k ≡ cond (is_short_sign a) 1 0 → after p (take k (a ∷ bs)) ≡ further p k
short_on p a k bs is =
    elim (cases_Bool (is_short_sign a)) [
      | inl short ↦
          let one : k ≡ 1 = is ∙ cond-true (is_short_sign a) 1 0 short in
          ap (λ (n : ℕ). after p (take n (a ∷ bs))) one ∙ byte_goes_on p a (no_end is_short_sign a refl short) ∙ ap (further p) (sym one)
      | inr none ↦
          let zero_is : k ≡ 0 = is ∙ cond-false (is_short_sign a) 1 0 none in
          ap (λ (n : ℕ). after p (take n (a ∷ bs))) zero_is ∙ further-none p ∙ ap (further p) (sym zero_is)
    ]

sign_on : (p : Span) (bs : List ℕ) → after p (take (sign_by_two bs) bs) ≡ further p (sign_by_two bs)
sign_on p [] = further-none p
sign_on p (a ∷ []) = short_on p a (sign_by_two (a ∷ [])) [] refl
sign_on p (a ∷ b ∷ bs) =
    elim (cases_Bool (is_long_sign a b)) [
      | inl long ↦
          let two : sign_by_two (a ∷ b ∷ bs) ≡ 2 = cond-true (is_long_sign a b) _ _ long in
          let first : (a == 10) ≡ false = no_end (λ x. is_long_sign x b) a refl long in
          let second : (b == 10) ≡ false = no_end (is_long_sign a) b (second_none a) long in
          ap (λ (n : ℕ). after p (take n (a ∷ b ∷ bs))) two
          ∙ first_on p a 1 (b ∷ []) first (byte_goes_on (further p 1) b second)
          ∙ ap (further p) (sym two)
      | inr short ↦ short_on p a (sign_by_two (a ∷ b ∷ bs)) (b ∷ bs) (cond-false (is_long_sign a b) _ _ short)
    ]
  where
    second_none : (a : ℕ) → is_long_sign a 10 ≡ false
    second_none a = (let none : (n : ℕ) → (a == n && false) ≡ false = λ n. and_false (a == n) in simp none refl)

word_on : (p : Span) (b n : ℕ) (bs : List ℕ) (kind : Kind) → begins_word b ≡ true → front (b ∷ bs) ≡ Token kind n → after p (take n (b ∷ bs)) ≡ further p n
word_on p b n bs kind first e =
    let w : ℕ = word_len (b ∷ bs) in
    let is : word (take w (b ∷ bs)) ≡ Token kind n = sym (front_word b bs first) ∙ e in
    let len : n ≡ w = word_takes (take w (b ∷ bs)) kind n is ∙ length-prefix_len is_in_word (b ∷ bs) in
    ap (λ (k : ℕ). after p (take k (b ∷ bs))) len ∙ prefix_on is_in_word p (b ∷ bs) refl ∙ ap (further p) (sym len)

-- the place behind a token
pub token_on : (p : Span) (bs : List ℕ) (kind : Kind) (n : ℕ) → front bs ≡ Token kind n → after p (take n bs) ≡ further p n
token_on p [] kind n e = absurd cc
token_on p (b ∷ bs) kind n e =
    let xs : List ℕ = b ∷ bs in
    elim (cases_Bool (begins_word b)) [
      | inl is_word ↦ word_on p b n bs kind is_word e
      | inr no_word ↦
          elim (cases_Bool (is_ascii_digit b)) [
            | inl digit ↦
                let is : number xs ≡ Token kind n = sym (front_number b bs no_word digit) ∙ e in
                let len : n ≡ number_len xs = sized_takes (decimals_of xs) (mantissa_of xs) (number_len xs) n kind is in
                ap (λ (k : ℕ). after p (take k xs)) len ∙ number_on p xs ∙ ap (further p) (sym len)
            | inr no_digit ↦
                let is : sign (sign_by_two xs) ≡ Token kind n = ap sign (by_two xs) ∙ sym (front_sign b bs no_word no_digit) ∙ e in
                let len : n ≡ sign_by_two xs = (sign_takes (sign_by_two xs) n kind is).0 in
                ap (λ (k : ℕ). after p (take k xs)) len ∙ sign_on p xs ∙ ap (further p) (sym len)
          ]
    ]
