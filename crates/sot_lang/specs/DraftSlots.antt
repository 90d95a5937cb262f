-- Drafts of eight slots: for each a number, and whether it is there.
use Rattle.std.specs.Prelude.{◌≡◌, Bool, true, false, ℤ, pos, List, [], ◌∷◌, Option, None, Some}
use Rattle.std.specs.Prelude.{length, map, is_some, unwrap_or}
use Rattle.std.proofs.Common.{◌∙◌, sym, ap, refl, arith}
use Rattle.sot_lang.specs.declared.draft.Draft.TheInside as draft

-- the number of a slot, where it is there
abbrev pub slot : Bool → ℤ → Option ℤ
slot true z = Some z
slot false z = None

-- the slots of some numbers, each with whether it is there
abbrev pub slots_of : List Bool → List ℤ → List (Option ℤ)
slots_of [] zs = []
slots_of (b ∷ bs) [] = []
slots_of (b ∷ bs) (z ∷ zs) = slot b z ∷ slots_of bs zs

abbrev pub slot_list : draft.Inside → List (Option ℤ)
slot_list d = slots_of d.there d.numbers

-- a number that is not there is 0
abbrev pub IsSlot : Bool → ℤ → Type 0
IsSlot true z = Unit {0}
IsSlot false z = z ≡ pos 0

abbrev pub AreSlots : List Bool → List ℤ → Type 0
AreSlots [] zs = Unit {0}
AreSlots (b ∷ bs) [] = Unit {0}
AreSlots (b ∷ bs) (z ∷ zs) = IsSlot b z × AreSlots bs zs

-- eight slots
abbrev pub IsDraft : draft.Inside → Type 0
IsDraft d = (length d.there ≡ 8) × (length d.numbers ≡ 8) × AreSlots d.there d.numbers

-- what is kept of a draft
abbrev pub draft_of : List (Option ℤ) → draft.Inside
draft_of slots =
    record { numbers = map (λ o. unwrap_or o (pos 0)) slots; there = map is_some slots }

kept_there : (bs : List Bool) (zs : List ℤ) → length bs ≡ length zs
    → map is_some (slots_of bs zs) ≡ bs
kept_there [] zs same = refl
kept_there (b ∷ bs) [] same = absurd (omega (arith, same))
kept_there (true ∷ bs) (z ∷ zs) same = ap (λ l. true ∷ l) (kept_there bs zs (omega (arith, same)))
kept_there (false ∷ bs) (z ∷ zs) same = ap (λ l. false ∷ l) (kept_there bs zs (omega (arith, same)))

kept_numbers : (bs : List Bool) (zs : List ℤ) → length bs ≡ length zs → AreSlots bs zs
    → map (λ o. unwrap_or o (pos 0)) (slots_of bs zs) ≡ zs
kept_numbers [] [] same are = refl
kept_numbers [] (z ∷ zs) same are = absurd (omega (arith, same))
kept_numbers (b ∷ bs) [] same are = absurd (omega (arith, same))
kept_numbers (true ∷ bs) (z ∷ zs) same are =
    ap (λ l. z ∷ l) (kept_numbers bs zs (omega (arith, same)) are.1)
kept_numbers (false ∷ bs) (z ∷ zs) same are =
    ap (λ x. x ∷ map (λ o. unwrap_or o (pos 0)) (slots_of bs zs)) (sym are.0)
    ∙ ap (λ l. z ∷ l) (kept_numbers bs zs (omega (arith, same)) are.1)

pub draft_of-slot_list : (d : draft.Inside) → IsDraft d → draft_of (slot_list d) ≡ d
draft_of-slot_list d h i = record {
  numbers = kept_numbers d.there d.numbers (h.0 ∙ sym h.1) h.2 i;
  there = kept_there d.there d.numbers (h.0 ∙ sym h.1) i;
}
