-- The rule holds of a new lock.
use Rattle.std.proofs.Common.{◌≡◌, ℕ, zero, suc, List, [], ◌∷◌, length, Some, true≢false, sym, refl, ap, ◌∙◌, subst, arith}
use mathlib.Core.Option as maybe
use Rattle.sot_turn.specs.declared.turn.rule.View.{View}
use Rattle.sot_turn.specs.Views.{IsAt, idle}
use Rattle.sot_turn.specs.Kept.{Kept, Fits}
use Rattle.sot_turn.proofs.PrefixLemmas.{IsPrefix-refl, All-none, some_same, some_is_not_none}
use Rattle.sot_turn.proofs.Homes.{one_at_home}
use Rattle.sot_turn.proofs.Parts.{Parts, Fits-idle, kept_by_parts}

only_view : {Ground Entry : Type 0} (first : View Ground Entry) (i : ℕ) (view : View Ground Entry) → IsAt (first ∷ []) i view → first ≡ view
only_view first zero view there = maybe.some-injective first view there
only_view first (suc i) view there = absurd (maybe.some-ne-none view (sym there))

module _ {Value Ground Entry : Type 0} (ground_of : Value → Ground) (entries_of : Value → List Entry) (value : Value) where
  abbrev first : View Ground Entry
  first = idle (Some (ground_of value)) (entries_of value)

  first_fits : Fits (entries_of value) (ground_of value) 0 0 first
  first_fits =
      Fits-idle (entries_of value) (ground_of value) (ground_of value) 0 0 first refl refl refl
      (λ g has. sym (some_same (ground_of value) g has)) (All-none _) (IsPrefix-refl (entries_of value)) (All-none _)

  opening_parts : Parts ground_of entries_of (entries_of value) (ground_of value) 0 0 (maybe.some (Some value) ∷ []) (first ∷ [])
  opening_parts = record {
    drawn_fits = omega arith;
    served_at_most_drawn = omega arith;
    each_fits = λ i view there. subst (Fits (entries_of value) (ground_of value) 0 0) (only_view first i view there) first_fits;
    distinct = λ i j ticket view other one two has other_has.
        absurd (some_is_not_none ticket (sym has ∙ ap (λ (v : View Ground Entry). v.ticket) (sym (only_view first i view one))));
    each_ticket = λ ticket low high. absurd (omega arith);
    home_stands = λ other is_home.
        (let same = one_at_home (maybe.some (Some value) ∷ []) value other refl is_home in (ap ground_of (sym same), ap entries_of (sym same)));
    home_unless_turn = λ nobody. (value, refl);
    out_while_turn = λ i view there turn. absurd (true≢false (sym turn ∙ ap (λ (v : View Ground Entry). v.turn) (sym (only_view first i view there))));
  }

  pub opening_kept : (len : ℕ) → len ≡ length (entries_of value) →
      Kept ground_of entries_of record { words = 0 ∷ 0 ∷ len ∷ []; homes = maybe.some (Some value) ∷ []; views = first ∷ [] }
  opening_kept len is =
      kept_by_parts ground_of entries_of (entries_of value) (ground_of value) 0 0 (0 ∷ 0 ∷ len ∷ []) (maybe.some (Some value) ∷ []) (first ∷ [])
      refl refl refl is opening_parts
