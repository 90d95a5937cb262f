-- The drafts that lines of firings spell.
use Rattle.std.proofs.Common.{◌≡◌, ℕ, zero, suc, ℤ, Bool, List, [], ◌∷◌, ◌++◌, Option, Some, None, length, map, refl, sym, ap, subst, arith}
use Rattle.std.specs.Option.{option_map}
use Rattle.std.proofs.lemmas.Option.{same_Some}
use Rattle.sot_lists.specs.Places.{At, Has}
use Rattle.sot_lang.specs.Tables.{Tables}
use Rattle.sot_code.specs.Recorded.{in_slots}
use Rattle.sot_trace.specs.Drafts.{is_in_range}
use Rattle.sot_trace_lines.specs.Laws.{marks_of}

-- the draft without the marks
unmarked_front : (p : Tables) (ks : List ℕ) (draft rest : List (Option ℤ)) → length draft ≡ length ks
    → map (option_map (λ (slot : Bool × ℤ). slot.1)) (marks_of p ks (draft ++ rest)) ≡ draft
unmarked_front p [] [] rest size = refl
unmarked_front p [] (d ∷ draft) rest size = absurd (omega (arith, size))
unmarked_front p (k ∷ ks) [] rest size = absurd (omega (arith, size))
unmarked_front p (k ∷ ks) (None ∷ draft) rest size = ap (λ l. None ∷ l) (unmarked_front p ks draft rest (omega (arith, size)))
unmarked_front p (k ∷ ks) (Some z ∷ draft) rest size = ap (λ l. Some z ∷ l) (unmarked_front p ks draft rest (omega (arith, size)))

pub unmarked : (p : Tables) (ks : List ℕ) (draft : List (Option ℤ)) → length draft ≡ length ks
    → map (option_map (λ (slot : Bool × ℤ). slot.1)) (marks_of p ks (in_slots draft)) ≡ draft
unmarked p ks draft size = unmarked_front p ks draft _ size

-- a number with a mark stands in the draft
marked_at : (p : Tables) (ks : List ℕ) (draft : List (Option ℤ)) (i : ℕ) (slot : Bool × ℤ) → At (marks_of p ks draft) i (Some slot) → At draft i (Some slot.1)
marked_at p [] draft i slot at = absurd cc
marked_at p (k ∷ ks) [] zero slot at = absurd cc
marked_at p (k ∷ ks) [] (suc i) slot at = absurd (none_at p ks i slot at)
  where
    none_at : (p : Tables) (ks : List ℕ) (i : ℕ) (slot : Bool × ℤ) → At (marks_of p ks []) i (Some slot) → ⊥
    none_at p [] i slot at = cc
    none_at p (k ∷ ks) zero slot at = cc
    none_at p (k ∷ ks) (suc i) slot at = none_at p ks i slot at
marked_at p (k ∷ ks) (None ∷ draft) zero slot at = absurd cc
marked_at p (k ∷ ks) (Some z ∷ draft) zero slot at =
    let pair : Bool × ℤ = (is_in_range p k z, z) in let same : pair ≡ slot = same_Some pair slot (same_Some (Some pair) (Some slot) at) in
    ap (λ (s : Bool × ℤ). Some (Some s.1)) same
marked_at p (k ∷ ks) (None ∷ draft) (suc i) slot at = marked_at p ks draft i slot at
marked_at p (k ∷ ks) (Some z ∷ draft) (suc i) slot at = marked_at p ks draft i slot at

pub has_marked : (p : Tables) (ks : List ℕ) (draft : List (Option ℤ)) (slots : List (Option (Bool × ℤ))) (slot : Bool × ℤ) → marks_of p ks draft ≡ slots
    → Has slots (Some slot) → (i : ℕ) × At draft i (Some slot.1)
has_marked p ks draft slots slot is (i, at) = (i, marked_at p ks draft i slot (subst (λ l. At l i (Some slot)) (sym is) at))
