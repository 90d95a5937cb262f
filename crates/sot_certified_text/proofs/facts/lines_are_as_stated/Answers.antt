use Rattle.std.proofs.Common.{◌≡◌, ℕ, List, [], ◌∷◌, ◌++◌, codes, inl, inr, refl}
use Rattle.sot_sections.specs.SectionExamples.{line}
use Rattle.sot_certified_text.specs.Plain.{EndsLine, IsPlain}
use Rattle.sot_certified_text.proofs.facts.lines_are_as_stated.Goals as goal

nothing_ended : (before : List ℕ) → [] ≡ before ++ 10 ∷ [] → ⊥
nothing_ended [] e = absurd cc
nothing_ended (b ∷ bs) e = absurd cc

letter_ended : (before : List ℕ) → 98 ∷ [] ≡ before ++ 10 ∷ [] → ⊥
letter_ended [] e = absurd cc
letter_ended (b ∷ bs) e = nothing_ended bs cc

line_ended : (before : List ℕ) → 10 ∷ 98 ∷ [] ≡ before ++ 10 ∷ [] → ⊥
line_ended [] e = absurd cc
line_ended (b ∷ bs) e = letter_ended bs cc

whole_ended : (before : List ℕ) → 97 ∷ 10 ∷ 98 ∷ [] ≡ before ++ 10 ∷ [] → ⊥
whole_ended [] e = absurd cc
whole_ended (b ∷ bs) e = line_ended bs cc

no_end : EndsLine (line (codes "a") ++ codes "b") → ⊥
no_end (inl e) = absurd cc
no_end (inr ends) = whole_ended ends.0 ends.1

begins_section : IsPlain (codes "%c") → ⊥
begins_section e = absurd cc

later_section : IsPlain (line (codes "a") ++ line (codes "%")) → ⊥
later_section e = absurd cc

pub returns : goal.returns
returns c = (inl refl, inr (codes "a" ++ 10 ∷ codes "b", refl), no_end, refl, refl, begins_section, later_section)
