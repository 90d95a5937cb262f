-- The sections of a text put together are the text.
use Rattle.std.proofs.Common.{◌≡◌, ℕ, suc, List, [], ◌∷◌, ◌++◌, ◌==◌, inl, inr, refl, ap, ◌∙◌, append_assoc}
use Rattle.std.specs.List.{flat_map}
use Rattle.std.proofs.lemmas.Bool.{cases_Bool}
use Rattle.sot_sections.specs.Sections.{Division, is_section_line, continued, opened, division}
use Rattle.sot_text.specs.LineEnds.{onto_first, lines}
use Rattle.sot_sections.specs.SectionExamples.{joined, SectionsAreTheText}

all_of : List (List ℕ) → List ℕ
all_of ls = flat_map (λ (l : List ℕ). l) ls

all_onto : (b : ℕ) (ls : List (List ℕ)) → all_of (onto_first b ls) ≡ b ∷ all_of ls
unfolding all_of
all_onto b [] = refl
all_onto b (l ∷ ls) = refl

all_lines : (bs : List ℕ) → all_of (lines bs) ≡ bs
unfolding all_of
all_lines [] = refl
all_lines (b ∷ bs) =
    elim (cases_Bool (b == 10)) [
      | inl end ↦ rw end (ap (λ (l : List ℕ). b ∷ l) (all_lines bs))
      | inr more ↦ rw more (all_onto b (lines bs) ∙ ap (λ (l : List ℕ). b ∷ l) (all_lines bs))
    ]

joined_opened : (n : ℕ) (l : List ℕ) (d : Division) → joined (opened n l d) ≡ l ++ joined d
joined_opened n l d = append_assoc l d.front (flat_map (λ s. s.mark ++ s.body) d.sections)

joined_continued : (l : List ℕ) (d : Division) → joined (continued l d) ≡ l ++ joined d
joined_continued l d = append_assoc l d.front (flat_map (λ s. s.mark ++ s.body) d.sections)

joined_division : (n : ℕ) (ls : List (List ℕ)) → joined (division n ls) ≡ all_of ls
unfolding all_of
joined_division n [] = refl
joined_division n (l ∷ ls) =
    let rest = ap (λ (t : List ℕ). l ++ t) (joined_division (suc n) ls) in
    elim (cases_Bool (is_section_line l)) [
      | inl mark ↦ rw mark (joined_opened n l (division (suc n) ls) ∙ rest)
      | inr plain ↦ rw plain (joined_continued l (division (suc n) ls) ∙ rest)
    ]

pub sections_are_the_text : SectionsAreTheText
sections_are_the_text bytes = joined_division 1 (lines bytes) ∙ all_lines bytes
