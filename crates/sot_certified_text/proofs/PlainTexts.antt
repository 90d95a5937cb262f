-- A text is plain where no line of it begins with '%', and it is known byte by byte.
use Rattle.std.proofs.Common.{◌≡◌, ℕ, suc, List, [], ◌∷◌, ◌++◌, ◌==◌, ◌&&◌, not, Bool, true, false, drop, inl, inr, refl, ap, ◌∙◌, subst}
use Rattle.std.proofs.lemmas.Bool.{cases_Bool}
use Rattle.sot_text.specs.LineEnds.{onto_first, lines}
use Rattle.sot_sections.specs.Sections.{division}
use Rattle.sot_certified_text.specs.Plain.{IsPlain}

-- no '%' stands at the beginning of a line; the text begins a line or goes on with one
abbrev pub is_plain : Bool → List ℕ → Bool
is_plain begins [] = true
is_plain begins (b ∷ bs) = not (begins && b == 37) && is_plain (b == 10) bs

-- no byte is a line end
abbrev pub is_one_line : List ℕ → Bool
is_one_line [] = true
is_one_line (b ∷ bs) = not (b == 10) && is_one_line bs

-- it begins with another byte than '%'
abbrev pub begins_plain : List ℕ → Bool
begins_plain [] = false
begins_plain (b ∷ bs) = not (b == 37)

pub both : (a b : Bool) → a ≡ true → b ≡ true → (a && b) ≡ true
both true true h k = refl
both true false h k = absurd cc
both false b h k = absurd cc

pub first_of : (a b : Bool) → (a && b) ≡ true → a ≡ true
first_of true b e = refl
first_of false b e = absurd cc

pub second_of : (a b : Bool) → (a && b) ≡ true → b ≡ true
second_of true b e = e
second_of false b e = absurd cc

pub not_true : (b : Bool) → not b ≡ true → b ≡ false
not_true true e = absurd cc
not_true false e = refl

abbrev Lines : Type 0
Lines = List (List ℕ)

-- a line that begins with another byte, and the lines behind it
onto_plain : (n b : ℕ) (ls : Lines) → (b == 37) ≡ false → (division n (onto_first b ls)).sections ≡ (division (suc n) (drop 1 ls)).sections
onto_plain n b [] other = rw other refl
onto_plain n b (l ∷ ls) other = rw other refl

behind_first : (b : ℕ) (ls : Lines) → drop 1 (onto_first b ls) ≡ drop 1 ls
behind_first b [] = refl
behind_first b (l ∷ ls) = refl

mutual
  begun : (n : ℕ) (bs : List ℕ) → is_plain true bs ≡ true → (division n (lines bs)).sections ≡ []
  begun n [] is = refl
  begun n (b ∷ bs) is =
      let other : (b == 37) ≡ false = not_true (b == 37) (first_of (not (b == 37)) (is_plain (b == 10) bs) is) in
      let rest : is_plain (b == 10) bs ≡ true = second_of (not (b == 37)) (is_plain (b == 10) bs) is in
      elim (cases_Bool (b == 10)) [
        | inl end ↦ rw (end, other) (begun (suc n) bs (subst (λ s. is_plain s bs ≡ true) end rest))
        | inr more ↦ rw more (onto_plain n b (lines bs) other ∙ going (suc n) bs (subst (λ s. is_plain s bs ≡ true) more rest))
      ]

  going : (n : ℕ) (bs : List ℕ) → is_plain false bs ≡ true → (division n (drop 1 (lines bs))).sections ≡ []
  going n [] is = refl
  going n (b ∷ bs) is =
      elim (cases_Bool (b == 10)) [
        | inl end ↦ rw end (begun n bs (subst (λ s. is_plain s bs ≡ true) end is))
        | inr more ↦ rw more (ap (λ ls. (division n ls).sections) (behind_first b (lines bs)) ∙ going n bs (subst (λ s. is_plain s bs ≡ true) more is))
      ]

pub plain_text : (bs : List ℕ) → is_plain true bs ≡ true → IsPlain bs
plain_text bs is = begun 1 bs is

-- bytes of one line, and a text behind them
pub goes_on : (text rest : List ℕ) → is_one_line text ≡ true → is_plain false (text ++ rest) ≡ is_plain false rest
goes_on [] rest one = refl
goes_on (b ∷ bs) rest one =
    let other : (b == 10) ≡ false = not_true (b == 10) (first_of (not (b == 10)) (is_one_line bs) one) in
    rw other (goes_on bs rest (second_of (not (b == 10)) (is_one_line bs) one))

pub one_line_on : (as_ bs : List ℕ) → is_one_line as_ ≡ true → is_one_line bs ≡ true → is_one_line (as_ ++ bs) ≡ true
one_line_on [] bs a b = b
one_line_on (c ∷ cs) bs a b =
    both (not (c == 10)) (is_one_line (cs ++ bs)) (first_of (not (c == 10)) (is_one_line cs) a)
    (one_line_on cs bs (second_of (not (c == 10)) (is_one_line cs) a) b)

pub begins_on : (as_ bs : List ℕ) → begins_plain as_ ≡ true → begins_plain (as_ ++ bs) ≡ true
begins_on [] bs e = absurd cc
begins_on (a ∷ as_) bs e = e

-- a line, with its end behind it
pub line_alone : (text : List ℕ) → is_one_line text ≡ true → lines (text ++ 10 ∷ []) ≡ (text ++ 10 ∷ []) ∷ []
line_alone [] one = refl
line_alone (b ∷ bs) one =
    let other : (b == 10) ≡ false = not_true (b == 10) (first_of (not (b == 10)) (is_one_line bs) one) in
    rw other (ap (onto_first b) (line_alone bs (second_of (not (b == 10)) (is_one_line bs) one)))

pub line_plain : (text : List ℕ) → is_one_line text ≡ true → begins_plain text ≡ true → IsPlain (text ++ 10 ∷ [])
line_plain [] one opens = refl
line_plain (b ∷ bs) one opens =
    plain_text ((b ∷ bs) ++ 10 ∷ []) (both (not (b == 37)) (is_plain (b == 10) (bs ++ 10 ∷ [])) opens (goes_on (b ∷ bs) (10 ∷ []) one))
