-- The bytes in front of the next section line, and how they divide a text.
use Rattle.std.proofs.Common.{◌≡◌, ◌≢◌, ℕ, zero, suc, ◌+◌, ◌-◌, ◌<◌, ◌≤◌, List, [], ◌∷◌, ◌++◌, Bool, true, false, ◌==◌, inl, inr, length, take, drop, refl, sym}
use Rattle.std.proofs.Common.{ap, subst, ◌∙◌, arith, append_assoc, length-drop, drop_of_length-le}
use Rattle.std.specs.Prelude.{◌⊎◌, slice_index, if◌then◌else◌}
use Rattle.std.proofs.lemmas.Bool.{cases_Bool, cases_lt, cases_order}
use Rattle.std.proofs.lemmas.Bool.Decides.{nat_tests}
use Rattle.std.proofs.lemmas.List.{append-nil, length-take-le, get_or-drop}
use Rattle.memchr.specs.Find.{Nowhere, Passes, is_byte}
use Rattle.sot_sections.specs.Sections.{Division, continued, division}
use Rattle.sot_text.specs.LineEnds.{onto_first, lines}
use Rattle.sot_text.specs.LineEnds.{line_len}
use Rattle.sot_sections.specs.Dividing.{divided, begins_section, end_line, NoneBegins, IsCut, IsRest}
use Rattle.sot_sections.proofs.Divided.{front_nothing}

-- lines, of which the first goes on with what stands before, whatever it begins with
abbrev held : ℕ → List (List ℕ) → Division
held n [] = record { front = []; sections = [] }
held n (l ∷ ls) = continued l (division (suc n) ls)

-- a text divided, where a line begins or goes on
abbrev divided_in : Bool → ℕ → List ℕ → Division
divided_in true n bs = divided n bs
divided_in false n bs = held n (lines bs)

-- the number of the line behind the last
abbrev last_in : Bool → ℕ → List ℕ → ℕ
last_in true n bs = end_line n bs
last_in false n [] = n + 1
last_in false n (b ∷ bs) = end_line n (b ∷ bs)

abbrev number_behind : ℕ → ℕ → ℕ
number_behind b n = if b == 10 then suc n else n

held_first : (n b : ℕ) (ls : List (List ℕ)) → held n (onto_first b ls) ≡ continued (b ∷ []) (held n ls)
held_first n b [] = refl
held_first n b (l ∷ ls) = refl

division_plain : (n b : ℕ) (ls : List (List ℕ)) → (b == 37) ≡ false → division n (onto_first b ls) ≡ held n (onto_first b ls)
division_plain n b [] plain = rw plain refl
division_plain n b (l ∷ ls) plain = rw plain refl

-- one byte that begins no section line
step_divided : (s : Bool) (n b : ℕ) (bs : List ℕ) → (s ≡ true → (b == 37) ≡ false)
    → divided_in s n (b ∷ bs) ≡ continued (b ∷ []) (divided_in (b == 10) (number_behind b n) bs)
step_divided true n b bs plain =
    elim (cases_Bool (b == 10)) [
      | inl end ↦ rw (end, plain refl) refl
      | inr more ↦ rw more (division_plain n b (lines bs) (plain refl) ∙ held_first n b (lines bs))
    ]
step_divided false n b bs plain =
    elim (cases_Bool (b == 10)) [
      | inl end ↦ rw end refl
      | inr more ↦ rw more (held_first n b (lines bs))
    ]

length-onto : (b : ℕ) (ls : List (List ℕ)) → 0 < length ls → length (onto_first b ls) ≡ length ls
length-onto b [] some = absurd (omega arith)
length-onto b (l ∷ ls) some = refl

length-onto-pos : (b : ℕ) (ls : List (List ℕ)) → 0 < length (onto_first b ls)
length-onto-pos b [] = omega arith
length-onto-pos b (l ∷ ls) = omega arith

lines_some : (b : ℕ) (bs : List ℕ) → 0 < length (lines (b ∷ bs))
lines_some b bs = elim (cases_Bool (b == 10)) [ inl end ↦ rw end (omega arith) | inr more ↦ rw more (length-onto-pos b (lines bs)) ]

step_open : (n b : ℕ) (bs : List ℕ) → n + length (onto_first b (lines bs)) ≡ last_in false n bs
step_open n b [] = refl
step_open n b (c ∷ cs) = ap (λ (k : ℕ). n + k) (length-onto b (lines (c ∷ cs)) (lines_some c cs))

step_end : (n b : ℕ) (bs : List ℕ) → end_line n (b ∷ bs) ≡ last_in (b == 10) (number_behind b n) bs
step_end n b bs =
    elim (cases_Bool (b == 10)) [
      | inl end ↦ rw end (omega arith)
      | inr more ↦ rw more (step_open n b bs)
    ]

step_last : (s : Bool) (n b : ℕ) (bs : List ℕ) → last_in s n (b ∷ bs) ≡ last_in (b == 10) (number_behind b n) bs
step_last true n b bs = step_end n b bs
step_last false n b bs = step_end n b bs

-- no section line begins in the bytes before a place
abbrev Quiet : Bool → ℕ → List ℕ → Type 0
Quiet s zero bs = Unit {0}
Quiet s (suc at) [] = Unit {0}
Quiet s (suc at) (b ∷ bs) = (s ≡ true → (b == 37) ≡ false) × Quiet (b == 10) at bs

-- a line begins there, or the text ends
abbrev Ends : Bool → ℕ → List ℕ → Type 0
Ends s zero bs = (s ≡ true) ⊎ (bs ≡ [])
Ends s (suc at) [] = ⊥
Ends s (suc at) (b ∷ bs) = Ends (b == 10) at bs

both : (a b : List ℕ) (d : Division) → continued a (continued b d) ≡ continued (a ++ b) d
both a b d = ap (λ (f : List ℕ). let whole : Division = record { front = f; sections = d.sections } in whole) (sym (append_assoc a b d.front))

-- what stands behind those bytes is divided by itself
cut_in : (s : Bool) (n at : ℕ) (bs : List ℕ) → Quiet s at bs → Ends s at bs
    → (divided_in s n bs ≡ continued (take at bs) (divided (last_in s n (take at bs)) (drop at bs)))
    × (last_in s n bs ≡ end_line (last_in s n (take at bs)) (drop at bs))
cut_in true n zero bs quiet ends = (let none : n + 0 ≡ n = omega arith in rw none (refl, refl))
cut_in false n zero [] quiet ends = (refl, (let none : n + 1 + 0 ≡ n + 1 = omega arith in sym none))
cut_in false n zero (b ∷ bs) quiet (inl begins) = absurd cc
cut_in false n zero (b ∷ bs) quiet (inr none) = absurd cc
cut_in s n (suc at) [] quiet ends = absurd ends
cut_in s n (suc at) (b ∷ bs) quiet ends =
    let m = number_behind b n in
    let rest = cut_in (b == 10) m at bs quiet.1 ends in
    let number : last_in s n (b ∷ take at bs) ≡ last_in (b == 10) m (take at bs) = step_last s n b (take at bs) in
    rw number (
      step_divided s n b bs quiet.0 ∙ ap (continued (b ∷ [])) rest.0 ∙ both (b ∷ []) (take at bs) (divided (last_in (b == 10) m (take at bs)) (drop at bs)),
      step_last s n b bs ∙ rest.1,
    )

-- the same of single places: a byte stands behind another one of its line, and a line begins
abbrev IsInside : Bool → ℕ → List ℕ → Type 0
IsInside s zero bs = s ≡ false
IsInside s (suc j) bs = slice_index bs j ≢ 10

abbrev Begins : Bool → ℕ → List ℕ → Type 0
Begins s zero bs = s ≡ true
Begins s (suc j) bs = slice_index bs j ≡ 10

inside_next : (s : Bool) (j b : ℕ) (bs : List ℕ) → IsInside s (suc j) (b ∷ bs) → IsInside (b == 10) j bs
inside_next s zero b bs is = grind (arith, nat_tests)
inside_next s (suc j) b bs is = is

begins_next : (s : Bool) (j b : ℕ) (bs : List ℕ) → Begins s (suc j) (b ∷ bs) → Begins (b == 10) j bs
begins_next s zero b bs is = grind (arith, nat_tests)
begins_next s (suc j) b bs is = is

quiet_from : (s : Bool) (at : ℕ) (bs : List ℕ) → ((j : ℕ) → j < at → slice_index bs j ≡ 37 → IsInside s j bs) → Quiet s at bs
quiet_from s zero bs each = tt
quiet_from s (suc at) [] each = tt
quiet_from s (suc at) (b ∷ bs) each = (
  λ begins. elim (cases_Bool (b == 37)) [
    | inl mark ↦ (let is : b ≡ 37 = grind (arith, nat_tests) in let inside : s ≡ false = each 0 (omega arith) is in absurd cc)
    | inr plain ↦ plain
  ],
  quiet_from (b == 10) at bs (λ j less is. inside_next s j b bs (each (suc j) (omega arith) is)),
)

ends_from : (s : Bool) (at : ℕ) (bs : List ℕ) → at ≤ length bs → (at ≡ length bs) ⊎ Begins s at bs → Ends s at bs
ends_from s zero [] within is = inr refl
ends_from s zero (b ∷ bs) within (inl whole) = absurd (omega (arith, whole))
ends_from s zero (b ∷ bs) within (inr begins) = inl begins
ends_from s (suc at) [] within is = absurd (omega arith)
ends_from s (suc at) (b ∷ bs) within (inl whole) = ends_from (b == 10) at bs (omega arith) (inl (omega (arith, whole)))
ends_from s (suc at) (b ∷ bs) within (inr begins) = ends_from (b == 10) at bs (omega arith) (inr (begins_next s at b bs begins))

inside_of : (bs : List ℕ) (j : ℕ) → (j ≢ 0) × (slice_index bs (j - 1) ≢ 10) → IsInside true j bs
inside_of bs zero is = absurd (is.0 refl)
inside_of bs (suc j) is = (let less : suc j - 1 ≡ j = omega arith in subst (λ (i : ℕ). slice_index bs i ≢ 10) less is.1)

begins_of : (bs : List ℕ) (at : ℕ) → (at ≡ 0) ⊎ (slice_index bs (at - 1) ≡ 10) → Begins true at bs
begins_of bs zero is = refl
begins_of bs (suc at) (inl none) = absurd (omega (arith, none))
begins_of bs (suc at) (inr end) = (let less : suc at - 1 ≡ at = omega arith in subst (λ (i : ℕ). slice_index bs i ≡ 10) less end)

cut_is : (bs : List ℕ) (at : ℕ) → IsCut bs at → (at ≡ length bs) ⊎ Begins true at bs
cut_is bs at (inl whole) = inl whole
cut_is bs at (inr begins) = inr (begins_of bs at begins.1)

section_at : (bs : List ℕ) (at : ℕ) → slice_index bs at ≡ 37 → begins_section (drop at bs) ≡ true
section_at [] zero is = refl
section_at [] (suc at) is = refl
section_at (b ∷ bs) zero is = grind (arith, nat_tests)
section_at (b ∷ bs) (suc at) is = section_at bs at is

cut_begins : (bs : List ℕ) (at : ℕ) → IsCut bs at → begins_section (drop at bs) ≡ true
cut_begins bs at (inl whole) = ap begins_section (drop_of_length-le bs (omega (arith, whole)))
cut_begins bs at (inr begins) = section_at bs at begins.0

length-onto-le : (b : ℕ) (ls : List (List ℕ)) → length (onto_first b ls) ≤ suc (length ls)
length-onto-le b [] = omega arith
length-onto-le b (l ∷ ls) = omega arith

pub lines_few : (bs : List ℕ) → length (lines bs) ≤ length bs
lines_few [] = omega arith
lines_few (b ∷ bs) =
    let few = lines_few bs in
    elim (cases_Bool (b == 10)) [ inl end ↦ rw end (omega arith) | inr more ↦ rw more (let le = length-onto-le b (lines bs) in omega arith) ]

-- the bytes before the next section line, and what stands behind them
pub front_cut : (n at : ℕ) (bs : List ℕ) → at ≤ length bs → NoneBegins bs at → IsCut bs at
    → (take at bs ≡ (divided n bs).front) × IsRest (divided n bs).sections (end_line n bs) (n + length bs) (end_line n (take at bs)) (drop at bs)
front_cut n at bs within none cut =
    let quiet = quiet_from true at bs (λ j less is. inside_of bs j (none j less is)) in
    let both = cut_in true n at bs quiet (ends_from true at bs within (cut_is bs at cut)) in
    let m = end_line n (take at bs) in
    let begins = cut_begins bs at cut in
    let empty : (divided m (drop at bs)).front ≡ [] = front_nothing m (drop at bs) begins in
    let few = lines_few (take at bs) in (
      sym (ap (λ (d : Division). d.front) both.0 ∙ ap (λ (l : List ℕ). take at bs ++ l) empty ∙ append-nil (take at bs)),
      record {
        begins = begins;
        same = sym (ap (λ (d : Division). d.sections) both.0);
        end = sym both.1;
        room = omega (arith, length-take-le at bs within, length-drop at bs);
      },
    )

-- the bytes of the first line before its last one end no line
inner_byte : (bs : List ℕ) (i : ℕ) → suc i < line_len bs → slice_index bs i ≢ 10
inner_byte [] i less = absurd (omega arith)
inner_byte (b ∷ bs) zero less =
    elim (cases_Bool (b == 10)) [
      | inl end ↦ absurd (let one : 1 < 1 = rw end at less in omega arith)
      | inr more ↦ grind (arith, nat_tests)
    ]
inner_byte (b ∷ bs) (suc i) less =
    elim (cases_Bool (b == 10)) [
      | inl end ↦ absurd (let one : suc (suc i) < 1 = rw end at less in omega arith)
      | inr more ↦ (let fewer : suc (suc i) < suc (line_len bs) = rw more at less in inner_byte bs i (omega arith))
    ]

-- behind a place no section line begins before the next `%`
pub none_before : (bs : List ℕ) (at before : ℕ) → NoneBegins bs at → Nowhere (Passes (is_byte 37) (drop at bs)) 0 before → NoneBegins bs (at + before)
none_before bs at before none nowhere j less is =
    elim (cases_lt j at) [
      | inl early ↦ none j early is
      | inr behind ↦
          let place : at + (j - at) ≡ j = omega arith in
          let read : slice_index (drop at bs) (j - at) ≡ slice_index bs j = get_or-drop at bs (j - at) 0 ∙ ap (λ (i : ℕ). slice_index bs i) place in
          let both : slice_index (drop at bs) (j - at) ≡ 37 = read ∙ is in
          let hit : (slice_index (drop at bs) (j - at) == 37) ≡ true = grind (arith, nat_tests) in
          absurd (nowhere (j - at) (omega arith) (omega arith) hit)
    ]

-- a `%` further on in its line begins no section line, and neither does the rest of that line
pub none_more : (bs : List ℕ) (mark k : ℕ) → NoneBegins bs mark → mark ≢ 0 → slice_index bs (mark - 1) ≢ 10 → k ≡ line_len (drop mark bs)
    → NoneBegins bs (mark + k)
none_more bs mark k none some other len j less is =
    elim (cases_order j mark) [
      | inl here ↦ subst (λ (i : ℕ). (i ≢ 0) × (slice_index bs (i - 1) ≢ 10)) (sym here) (some, other)
      | inr (inl early) ↦ none j early is
      | inr (inr late) ↦
          let place : mark + (j - 1 - mark) ≡ j - 1 = omega arith in
          let inner = inner_byte (drop mark bs) (j - 1 - mark) (omega (arith, len)) in
          (λ zero. omega (arith, late, zero), λ end. inner (get_or-drop mark bs (j - 1 - mark) 0 ∙ ap (λ (i : ℕ). slice_index bs i) place ∙ end))
    ]
