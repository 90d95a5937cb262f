-- A numeral that is a whole text.
use Rattle.std.proofs.Common.{◌≡◌, ◌≤◌, ◌<◌, ◌+◌, ◌^◌, Option, None, Some, ℕ, suc, true, false, Bool, List, [], ◌∷◌, ◌++◌, ◌&&◌, ◌==◌, length, take, drop, refl, sym, ap, ap₂, ◌∙◌, append-nil, arith, inl, inr}
use Rattle.std.specs.Prelude.{if◌then◌else◌, nat_le, min, codes}
use Rattle.std.specs.List.{list_all, prefix_len}
use Rattle.std.specs.Char.{is_ascii_digit}
use Rattle.std.proofs.lemmas.Bool.{cases_Bool, eqb-true, leb-true, le-leb}
use Rattle.std.proofs.lemmas.Option.{same_Some}
use Rattle.std.proofs.lemmas.List.{take_all}
use Rattle.std.proofs.Math.ListN.{drop_of_length-le}
use Rattle.sot_text.specs.Lexeme.{digits_len, decimals_len, decimals_of, mantissa_of, value}
use Rattle.std.specs.Str.{bytes_eq}
use Rattle.sot_sections.specs.Sections.{title}
use Rattle.sot_guard_input.specs.Marks.{is_numeral, time_said, time_behind, marked_time}

-- of digits alone all are at the front
all_digits : (ds : List ℕ) → list_all is_ascii_digit ds ≡ true → digits_len ds ≡ length ds
all_digits [] e = refl
all_digits (d ∷ ds) e =
    elim (cases_Bool (is_ascii_digit d)) [
      | inl is ↦ (let rest = all_digits ds (sym (ap (λ b. b && list_all is_ascii_digit ds) is) ∙ e) in rw is (omega (arith, rest)))
      | inr other ↦ (let never : false ≡ true = sym (ap (λ b. b && list_all is_ascii_digit ds) other) ∙ e in absurd cc)
    ]

numeral_digits : (text : List ℕ) → is_numeral text ≡ true → list_all is_ascii_digit text ≡ true
numeral_digits [] e = refl
numeral_digits (d ∷ []) e =
    elim (cases_Bool (d == 48)) [
      | inl zero ↦ ap (λ n. list_all is_ascii_digit (n ∷ [])) (eqb-true d 48 zero)
      | inr other ↦ sym (ap (λ b. if b then true else list_all is_ascii_digit (d ∷ [])) other) ∙ e
    ]
numeral_digits (d ∷ f ∷ ds) e =
    elim (cases_Bool (d == 48)) [
      | inl zero ↦ (let alone : (length (f ∷ ds) == 0) ≡ true = sym (ap (λ b. if b then length (f ∷ ds) == 0 else list_all is_ascii_digit (d ∷ f ∷ ds)) zero) ∙ e in
          let none = eqb-true (length (f ∷ ds)) 0 alone in absurd (omega (arith, none)))
      | inr other ↦ sym (ap (λ b. if b then length (f ∷ ds) == 0 else list_all is_ascii_digit (d ∷ f ∷ ds)) other) ∙ e
    ]

-- the number at the front of a numeral is all of it
pub numeral_value : (text : List ℕ) → is_numeral text ≡ true → mantissa_of text ≡ value text
numeral_value text e =
    let all = all_digits text (numeral_digits text e) in
    let first : take (digits_len text) text ≡ text = ap (λ n. take n text) all ∙ take_all (length text) text (omega arith) in
    let rest : drop (digits_len text) text ≡ [] = ap (λ n. drop n text) all ∙ drop_of_length-le text (omega arith) in
    let none : decimals_of text ≡ 0 = ap decimals_len rest in
    ap value (ap (λ l. l ++ take (decimals_of text) (drop (digits_len text + 1) text)) first ∙ ap (λ n. text ++ take n (drop (digits_len text + 1) text)) none ∙ append-nil text)

-- what a text says as a time, by what a reader of numerals finds in it, which stops at 10^12 + 1
module _ (text : List ℕ) where
  pub no_numeral : is_numeral text ≡ false → None ≡ time_said text
  no_numeral e = sym (ap (λ b. if b && nat_le (value text) (10 ^ 12) then Some (value text) else None) e)

  pub said_time : (m : ℕ) → is_numeral text ≡ true → m ≡ min (mantissa_of text) (10 ^ 12 + 1) → m ≤ 10 ^ 12 → Some m ≡ time_said text
  said_time m e found le =
      let is = numeral_value text e in
      let m_is : m ≡ value text = omega (arith, found, is, le) in
      let test : nat_le (value text) (10 ^ 12) ≡ true = le-leb (value text) (10 ^ 12) (omega (arith, m_is, le)) in
      ap Some m_is ∙ sym (ap₂ (λ a b. if a && b then Some (value text) else None) e test)

  pub late_time : (m : ℕ) → is_numeral text ≡ true → m ≡ min (mantissa_of text) (10 ^ 12 + 1) → 10 ^ 12 < m → None ≡ time_said text
  late_time m e found gt =
      let is = numeral_value text e in
      let test : nat_le (value text) (10 ^ 12) ≡ false = not_le (value text) (omega (arith, found, is, gt)) in
      sym (ap₂ (λ a b. if a && b then Some (value text) else None) e test)
    where
      not_le : (n : ℕ) → 10 ^ 12 < n → nat_le n (10 ^ 12) ≡ false
      not_le n lt =
          elim (cases_Bool (nat_le n (10 ^ 12))) [
            | inl is ↦ absurd (let le = leb-true n (10 ^ 12) is in omega (arith, le, lt))
            | inr other ↦ other
          ]

both : (a b : Bool) → (a && b) ≡ true → b ≡ true
both true b is = is
both false b is = absurd cc

said_within : (text : List ℕ) (time : ℕ) → time_said text ≡ Some time → time ≤ 10 ^ 12
said_within text time e =
    elim (cases_Bool (is_numeral text && nat_le (value text) (10 ^ 12))) [
      | inl is ↦ (let same : Some (value text) ≡ Some time = sym (ap (λ b. if b then Some (value text) else None) is) ∙ e in
          let value_is : value text ≡ time = same_Some (value text) time same in
          let le : value text ≤ 10 ^ 12 = leb-true (value text) (10 ^ 12) (both (is_numeral text) (nat_le (value text) (10 ^ 12)) is) in omega (arith, le, value_is))
      | inr other ↦ (let never : None ≡ Some time = sym (ap (λ b. if b then Some (value text) else None) other) ∙ e in absurd cc)
    ]

behind_within : (text : List ℕ) (time : ℕ) → time_behind text ≡ Some time → time ≤ 10 ^ 12
behind_within text time e =
    elim (cases_Bool (bytes_eq (take 10 text) (codes "%observed "))) [
      | inl says ↦ said_within (drop 10 text) time (sym (ap (λ b. if b then time_said (drop 10 text) else None) says) ∙ e)
      | inr other ↦ (let never : None ≡ Some time = sym (ap (λ b. if b then time_said (drop 10 text) else None) other) ∙ e in absurd cc)
    ]

-- the time that a mark says is no later than 10^12
pub marked_within : (line : List ℕ) (time : ℕ) → marked_time line ≡ Some time → time ≤ 10 ^ 12
marked_within line time e =
    let t = title line in
    elim (cases_Bool (bytes_eq t (codes "%observed"))) [
      | inl bare ↦ (let same : Some 0 ≡ Some time = sym (ap (λ b. if b then Some 0 else time_behind t) bare) ∙ e in
          let none : 0 ≡ time = same_Some 0 time same in omega (arith, none))
      | inr more ↦ behind_within t time (sym (ap (λ b. if b then Some 0 else time_behind t) more) ∙ e)
    ]
