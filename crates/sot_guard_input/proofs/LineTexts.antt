-- Texts of whole lines, and lines that come in pieces.
use Rattle.std.proofs.Common.{◌≡◌, ℕ, ◌<◌, ◌==◌, ◌||◌, true, false, List, [], ◌∷◌, ◌++◌, inl, inr, length, take, refl, sym, ap, ◌∙◌, arith}
use Rattle.std.proofs.lemmas.List.{length-take, length-append}
use Rattle.std.specs.List.{list_any}
use Rattle.std.proofs.lemmas.Bool.{cases_Bool}
use Rattle.std.proofs.lemmas.List.Folds.{list_any-append}
use Rattle.sot_text.specs.LineEnds.{lines, line_len, onto_first}
use Rattle.sot_text.proofs.Lines.{line_len-pos, line_len-le}
use Rattle.sot_guard_input.specs.Waiting.{has_end}
use Rattle.sot_guard_input.specs.Reading.{ends_line, IsAtMostALine}
use Rattle.sot_guard_input.specs.Marks.{is_observed}
use Rattle.sot_guard_input.specs.Fronts.{HasNone}

onto_some : (b : ℕ) (ls : List (List ℕ)) → 0 < length (onto_first b ls)
onto_some b [] = omega arith
onto_some b (l ∷ ls) = omega arith

lines_some : (b : ℕ) (bs : List ℕ) → 0 < length (lines (b ∷ bs))
lines_some b bs = elim (cases_Bool (b == 10)) [ inl end ↦ rw end (omega arith) | inr more ↦ rw more (onto_some b (lines bs)) ]

onto_behind : (b : ℕ) (ls more : List (List ℕ)) → 0 < length ls → onto_first b (ls ++ more) ≡ onto_first b ls ++ more
onto_behind b [] more some = absurd (omega arith)
onto_behind b (l ∷ ls) more some = refl

-- behind a text whose last line has its line end, lines begin anew
pub lines_behind : (a b : List ℕ) → ends_line a ≡ true → lines (a ++ b) ≡ lines a ++ lines b
lines_behind [] b e = refl
lines_behind (x ∷ []) b e = rw e refl
lines_behind (x ∷ y ∷ a) b e =
    let rest = lines_behind (y ∷ a) b e in
    elim (cases_Bool (x == 10)) [
      | inl end ↦ rw end (ap (λ ls. (x ∷ []) ∷ ls) rest)
      | inr more ↦ rw more (ap (onto_first x) rest ∙ onto_behind x (lines (y ∷ a)) (lines b) (lines_some y a))
    ]

-- the first line of a text is a line
pub first_alone : (w : List ℕ) → 0 < length w → lines (take (line_len w) w) ≡ take (line_len w) w ∷ []
first_alone [] some = absurd (omega arith)
first_alone (b ∷ []) some = elim (cases_Bool (b == 10)) [ inl end ↦ rw end (rw end refl) | inr more ↦ rw more (rw more refl) ]
first_alone (b ∷ d ∷ bs) some =
    elim (cases_Bool (b == 10)) [
      | inl end ↦ rw end (rw end refl)
      | inr more ↦ rw more (rw more (ap (onto_first b) (first_alone (d ∷ bs) (omega arith))))
    ]

-- a byte in front of some others ends no line
ends_onto : (b : ℕ) (bs : List ℕ) → 0 < length bs → ends_line (b ∷ bs) ≡ ends_line bs
ends_onto b [] some = absurd (omega arith)
ends_onto b (c ∷ bs) some = refl

first_some : (w : List ℕ) → 0 < length w → 0 < length (take (line_len w) w)
first_some w some = (let le = line_len-le w in let pos = line_len-pos w some in omega (arith, le, pos, length-take (line_len w) w))

-- and ends where it has a line end
pub first_ends : (w : List ℕ) → has_end w ≡ true → ends_line (take (line_len w) w) ≡ true
first_ends [] e = absurd cc
first_ends (b ∷ []) e =
    elim (cases_Bool (b == 10)) [
      | inl end ↦ rw end end
      | inr more ↦ (let never : false ≡ true = sym (ap (λ x. x || false) more) ∙ e in absurd cc)
    ]
first_ends (b ∷ d ∷ bs) e =
    elim (cases_Bool (b == 10)) [
      | inl end ↦ rw end end
      | inr more ↦ (let rest = first_ends (d ∷ bs) (sym (ap (λ x. x || has_end (d ∷ bs)) more) ∙ e) in
          rw more (ends_onto b (take (line_len (d ∷ bs)) (d ∷ bs)) (first_some (d ∷ bs) (omega arith)) ∙ rest))
    ]

no_first : (b : ℕ) (bs : List ℕ) → has_end (b ∷ bs) ≡ false → ((b == 10) ≡ false) × (has_end bs ≡ false)
no_first b bs e =
    elim (cases_Bool (b == 10)) [
      | inl end ↦ (let never : true ≡ false = sym (ap (λ x. x || has_end bs) end) ∙ e in absurd cc)
      | inr more ↦ (more, sym (ap (λ x. x || has_end bs) more) ∙ e)
    ]

-- a line that comes in pieces
pub joined_line : (a b : List ℕ) → has_end a ≡ false → lines b ≡ b ∷ [] → lines (a ++ b) ≡ (a ++ b) ∷ []
joined_line [] b none one = one
joined_line (x ∷ a) b none one =
    let first = no_first x a none in
    let rest = joined_line a b first.1 one in
    let more = first.0 in rw more (ap (onto_first x) rest)

-- bytes without a line end are a line
pub unended_alone : (w : List ℕ) → 0 < length w → has_end w ≡ false → lines w ≡ w ∷ []
unended_alone [] some none = absurd (omega arith)
unended_alone (b ∷ []) some none = (let more = (no_first b [] none).0 in rw more refl)
unended_alone (b ∷ d ∷ bs) some none =
    let first = no_first b (d ∷ bs) none in
    let rest = unended_alone (d ∷ bs) (omega arith) first.1 in
    let more = first.0 in rw more (ap (onto_first b) rest)

-- whether a text ends a line shows at its end
pub ends_behind : (a b : List ℕ) → 0 < length b → ends_line (a ++ b) ≡ ends_line b
ends_behind [] b some = refl
ends_behind (x ∷ a) b some = ends_onto x (a ++ b) (omega (arith, some, length-append a b)) ∙ ends_behind a b some

-- no line of a text, and not the one behind, says what is looked for
pub none_behind : (front line : List ℕ) → ends_line front ≡ true → HasNone front → IsAtMostALine line → is_observed line ≡ false → HasNone (front ++ line)
none_behind front line whole none at_most other =
    ap (list_any is_observed) (lines_behind front line whole)
    ∙ list_any-append is_observed (lines front) (lines line)
    ∙ ap (λ x. x || list_any is_observed (lines line)) none
    ∙ elim at_most [
      | inl empty ↦ ap (λ l. list_any is_observed (lines l)) empty
      | inr one ↦ ap (list_any is_observed) one ∙ ap (λ x. x || false) other
    ]
