-- JSON with no blank is of one line.
use Rattle.std.proofs.Common.{◌≡◌, ℕ, ◌+◌, ◌/◌, ◌%◌, ◌==◌, ◌&&◌, not, nat_lt, Bool, true, false, cond, List, [], ◌∷◌, ◌++◌, inl, inr, refl, sym, subst, arith}
use Rattle.std.specs.Char.{digit_char}
use Rattle.std.proofs.lemmas.Bool.{cases_Bool}
use Rattle.std.proofs.lemmas.Bool.Decides.{nat_tests}
use Rattle.json.specs.Print.{escape_letter, escape_byte, escape, quoted}
use Rattle.serde_json.specs.Data.{Num, unsigned, negative, float, Data, null, boolean, number, string, array, object, Items, no_items, item, Members}
use Rattle.serde_json.specs.Data.{no_members, member}
use Rattle.serde_json.specs.Written.{number_text, comma_if, compact_text, items_text, members_text}
use Rattle.sot_certified_text.proofs.PlainTexts.{is_one_line, both, one_line_on}
use Rattle.sot_certified_text.proofs.Digits.{decimal_one_line, signed_one_line}

digit_no_end : (d : ℕ) → not (digit_char d == 10) ≡ true
digit_no_end d =
    elim (cases_Bool (nat_lt d 10)) [
      | inl low ↦ (let other : (48 + d == 10) ≡ false = grind (arith, nat_tests) in rw (low, other) refl)
      | inr high ↦ (let other : (87 + d == 10) ≡ false = grind (arith, nat_tests) in rw (high, other) refl)
    ]

-- no short escape has a line end
letter_no_end : (x : ℕ) → not (escape_letter x == 10) ≡ true
letter_no_end x =
    elim (cases_Bool (x == 34)) [
      | inl quote ↦ (let e : x ≡ 34 = grind (arith, nat_tests) in subst (λ y. not (escape_letter y == 10) ≡ true) (sym e) refl)
      | inr no_quote ↦
          elim (cases_Bool (x == 92)) [
            | inl slash ↦ (let e : x ≡ 92 = grind (arith, nat_tests) in subst (λ y. not (escape_letter y == 10) ≡ true) (sym e) refl)
            | inr no_slash ↦ rw (no_quote, no_slash) (others (x == 8) (x == 12) (x == 10) (x == 13) (x == 9))
          ]
    ]
  where
    others : (p q r s t : Bool) → not (cond p 98 (cond q 102 (cond r 110 (cond s 114 (cond t 116 0)))) == 10) ≡ true
    others true q r s t = refl
    others false true r s t = refl
    others false false true s t = refl
    others false false false true t = refl
    others false false false false true = refl
    others false false false false false = refl

byte_one_line : (x : ℕ) → is_one_line (escape_byte x) ≡ true
unfolding escape_byte
byte_one_line x =
    elim (cases_Bool (nat_lt 0 (escape_letter x))) [
      | inl short ↦ rw short (both (not (escape_letter x == 10)) true (letter_no_end x) refl)
      | inr no_letter ↦
          elim (cases_Bool (nat_lt x 32)) [
            | inl low ↦ rw (no_letter, low) (both (not (digit_char (x / 16) == 10)) (not (digit_char (x % 16) == 10) && true) (digit_no_end (x / 16))
                (both (not (digit_char (x % 16) == 10)) true (digit_no_end (x % 16)) refl))
            | inr high ↦ (let other : (x == 10) ≡ false = grind (arith, nat_tests) in rw (no_letter, high, other) refl)
          ]
    ]

escape_one_line : (s : List ℕ) → is_one_line (escape s) ≡ true
escape_one_line [] = refl
escape_one_line (x ∷ xs) = one_line_on (escape_byte x) (escape xs) (byte_one_line x) (escape_one_line xs)

quoted_one_line : (s : List ℕ) → is_one_line (quoted s) ≡ true
quoted_one_line s = one_line_on (escape s) (34 ∷ []) (escape_one_line s) refl

number_one_line : (n : Num) → is_one_line (number_text n) ≡ true
number_one_line (unsigned n) = decimal_one_line n
number_one_line (negative z) = signed_one_line z
number_one_line (float x) = refl

comma_one_line : (later : Bool) → is_one_line (comma_if later) ≡ true
comma_one_line true = refl
comma_one_line false = refl

mutual
  pub data_one_line : (d : Data) → is_one_line (compact_text d) ≡ true
  data_one_line null = refl
  data_one_line (boolean true) = refl
  data_one_line (boolean false) = refl
  data_one_line (number n) = number_one_line n
  data_one_line (string s) = quoted_one_line s
  data_one_line (array ds) = items_one_line false ds
  data_one_line (object ms) = members_one_line false ms

  items_one_line : (later : Bool) (ds : Items) → is_one_line (items_text later ds) ≡ true
  items_one_line later no_items = refl
  items_one_line later (item d ds) =
      one_line_on (comma_if later) (compact_text d ++ items_text true ds) (comma_one_line later)
      (one_line_on (compact_text d) (items_text true ds) (data_one_line d) (items_one_line true ds))

  members_one_line : (later : Bool) (ms : Members) → is_one_line (members_text later ms) ≡ true
  members_one_line later no_members = refl
  members_one_line later (member k d ms) =
      one_line_on (comma_if later) (quoted k ++ 58 ∷ (compact_text d ++ members_text true ms)) (comma_one_line later)
      (one_line_on (quoted k) (58 ∷ (compact_text d ++ members_text true ms)) (quoted_one_line k)
      (one_line_on (compact_text d) (members_text true ms) (data_one_line d) (members_one_line true ms)))
