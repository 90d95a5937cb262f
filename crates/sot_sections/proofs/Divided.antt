-- How the first line of a text divides it.
use Rattle.std.proofs.Common.{◌≡◌, ℕ, suc, ◌<◌, List, [], ◌∷◌, true, ◌==◌, inl, inr, length, take, drop, refl, ap, ◌∙◌, arith}
use Rattle.std.proofs.lemmas.Bool.{cases_Bool}
use Rattle.sot_text.specs.LineEnds.{lines, line_len}
use Rattle.sot_text.proofs.Lines.{first_line}
use Rattle.sot_sections.specs.Sections.{Division, is_section_line, opened, division}
use Rattle.sot_sections.specs.Dividing.{divided, begins_section, end_line}

first_is_section : (bs : List ℕ) → is_section_line (take (line_len bs) bs) ≡ is_section_line bs
first_is_section [] = refl
first_is_section (b ∷ bs) = elim (cases_Bool (b == 10)) [ inl end ↦ rw end refl | inr more ↦ rw more refl ]

opens : (n : ℕ) (l : List ℕ) (ls : List (List ℕ)) → is_section_line l ≡ true → division n (l ∷ ls) ≡ opened n l (division (suc n) ls)
opens n l ls is = rw is refl

pub divided_opened : (n : ℕ) (bs : List ℕ) → is_section_line bs ≡ true
    → divided n bs ≡ opened n (take (line_len bs) bs) (divided (suc n) (drop (line_len bs) bs))
divided_opened n [] is = absurd cc
divided_opened n (b ∷ bs) is =
    ap (division n) (first_line (b ∷ bs) (omega arith)) ∙ opens n (take (line_len (b ∷ bs)) (b ∷ bs)) (lines (drop (line_len (b ∷ bs)) (b ∷ bs)))
    (first_is_section (b ∷ bs) ∙ is)

pub end_moves : (n : ℕ) (bs : List ℕ) → 0 < length bs → end_line n bs ≡ end_line (suc n) (drop (line_len bs) bs)
end_moves n bs some = (let len = ap (λ (ls : List (List ℕ)). length ls) (first_line bs some) in omega (arith, len))

pub front_nothing : (n : ℕ) (bs : List ℕ) → begins_section bs ≡ true → (divided n bs).front ≡ []
front_nothing n [] is = refl
front_nothing n (b ∷ bs) is = ap (λ (d : Division). d.front) (divided_opened n (b ∷ bs) is)
