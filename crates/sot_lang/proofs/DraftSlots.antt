-- Slots of drafts, set and read.
use Rattle.std.proofs.Math.ListN.{set}
use Rattle.std.proofs.Common.{◌≡◌, ◌<◌, ℕ, zero, suc, Bool, true, false, ℤ, pos, List, [], ◌∷◌, refl, sym, ap, ◌∙◌, Some, length, map, slice_get, get_or, arith}
use Rattle.std.proofs.Common.{Option}
use Rattle.std.specs.Prelude.{◌&&◌, is_some, unwrap_or}
use Rattle.std.specs.Ordering.{int_eq}
use lib.Pointwise.{pointwise}
use mathlib.Core.Bool.{beq}
use Rattle.sot_lang.specs.DraftSlots.{slot, slots_of, slot_list, AreSlots, IsDraft, draft_of-slot_list}
use Rattle.sot_lang.specs.declared.draft.Draft.TheInside as draft

pub slots-set : (i : ℕ) (v : ℤ) (bs : List Bool) (zs : List ℤ) → length bs ≡ length zs → slots_of (set bs i true) (set zs i v) ≡ set (slots_of bs zs) i (Some v)
slots-set i v [] zs same = refl
slots-set i v (b ∷ bs) [] same = absurd (omega (arith, same))
slots-set zero v (b ∷ bs) (z ∷ zs) same = refl
slots-set (suc i) v (b ∷ bs) (z ∷ zs) same = ap (λ l. slot b z ∷ l) (slots-set i v bs zs (omega (arith, same)))

pub set_are_slots : (i : ℕ) (v : ℤ) (bs : List Bool) (zs : List ℤ) → AreSlots bs zs → AreSlots (set bs i true) (set zs i v)
set_are_slots i v [] zs are = are
set_are_slots zero v (b ∷ bs) [] are = are
set_are_slots (suc i) v (b ∷ bs) [] are = are
set_are_slots zero v (b ∷ bs) (z ∷ zs) are = (tt, are.1)
set_are_slots (suc i) v (b ∷ bs) (z ∷ zs) are = (are.0, set_are_slots i v bs zs are.1)

pub slot-read : (i : ℕ) (bs : List Bool) (zs : List ℤ) → length bs ≡ length zs → i < length bs
    → slice_get (slots_of bs zs) i ≡ Some (slot (get_or bs i false) (get_or zs i (pos 0)))
slot-read i [] zs same below = absurd (omega (arith, below))
slot-read i (b ∷ bs) [] same below = absurd (omega (arith, same))
slot-read zero (b ∷ bs) (z ∷ zs) same below = refl
slot-read (suc i) (b ∷ bs) (z ∷ zs) same below = slot-read i bs zs (omega (arith, same)) (omega (arith, below))

-- drafts are equal where their numbers are, and where the same ones are there
pub same_slots : (d e : draft.Inside) (s t : List (Option ℤ)) (is_equal numbers_equal : Bool) → slot_list d ≡ s → slot_list e ≡ t → IsDraft d → IsDraft e
    → numbers_equal ≡ pointwise int_eq d.numbers e.numbers → is_equal ≡ (numbers_equal && pointwise beq d.there e.there)
    → is_equal ≡ (pointwise int_eq (map (λ o. unwrap_or o (pos 0)) s) (map (λ o. unwrap_or o (pos 0)) t) && pointwise beq (map is_some s) (map is_some t))
same_slots d e s t is_equal numbers_equal ds et hd he numbers there =
    let d_back = draft_of-slot_list d hd in
    let e_back = draft_of-slot_list e he in
    there ∙ ap (λ b. b && pointwise beq d.there e.there) numbers
    ∙ ap (λ (x : draft.Inside). pointwise int_eq x.numbers e.numbers && pointwise beq x.there e.there) (sym d_back)
    ∙ ap (λ (x : draft.Inside). pointwise int_eq (map (λ o. unwrap_or o (pos 0)) (slot_list d)) x.numbers && pointwise beq (map is_some (slot_list d)) x.there)
    (sym e_back)
    ∙ ap (λ l. pointwise int_eq (map (λ o. unwrap_or o (pos 0)) l) (map (λ o. unwrap_or o (pos 0)) (slot_list e)) && pointwise beq (map is_some l)
    (map is_some (slot_list e))) ds
    ∙ ap (λ l. pointwise int_eq (map (λ o. unwrap_or o (pos 0)) s) (map (λ o. unwrap_or o (pos 0)) l) && pointwise beq (map is_some s) (map is_some l)) et

pub slots-length : (bs : List Bool) (zs : List ℤ) → length bs ≡ length zs → length (slots_of bs zs) ≡ length bs
slots-length [] zs same = refl
slots-length (b ∷ bs) [] same = absurd (omega (arith, same))
slots-length (b ∷ bs) (z ∷ zs) same = ap suc (slots-length bs zs (omega (arith, same)))
