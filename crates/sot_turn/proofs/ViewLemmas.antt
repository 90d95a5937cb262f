-- The views after one of them has changed.
use Rattle.std.proofs.Common.{◌≡◌, ◌≢◌, ◌⊎◌, ℕ, zero, suc, ◌<◌, ◌≤◌, true, List, [], ◌∷◌, length, slice_set, Option, Some, None, sym, ap, ◌∙◌, subst, inl, inr}
use Rattle.std.proofs.Common.{⊎_elim, arith}
use mathlib.Core.Logic.{dite}
use mathlib.Core.Option as maybe
use native.Mathlib.Decide.{ℕ_discrete}
use lib.ListN.{get_elem?}
use Rattle.atomic_table.proofs.Lists.{at_set, set_here, set_else}
use Rattle.sot_turn.specs.declared.turn.rule.View.{View}
use Rattle.sot_turn.specs.Views.{IsAt, EachView, HaveDistinctTickets, HaveEachTicket, HaveOneTurn, NobodyHasTurn}
use Rattle.sot_turn.proofs.PrefixLemmas.{some_same, some_is_not_none}

in_range : {Known : Type 0} (views : List Known) (i : ℕ) (view : Known) → get_elem? views i ≡ maybe.some view → i < length views
in_range [] i view there = absurd (maybe.some-ne-none view (sym there))
in_range (x ∷ xs) zero view there = omega arith
in_range (x ∷ xs) (suc i) view there = let within = in_range xs i view there in omega arith

no_ticket : (ticket : ℕ) → None ≡ Some ticket → ⊥
no_ticket ticket is = some_is_not_none ticket (sym is)

pub has_ticket : (own : Option ℕ) (ticket : ℕ) → Dec (own ≡ Some ticket)
has_ticket None ticket = no (no_ticket ticket)
has_ticket (Some own) ticket = dite (ℕ_discrete own ticket) (λ is. yes (ap Some is)) (λ is_not. no (λ is. is_not (some_same own ticket is)))

module _ {Ground Entry : Type 0} where
  -- one place has one view
  pub IsAt-same : (views : List (View Ground Entry)) (i place : ℕ) (view other : View Ground Entry) →
      IsAt views place view → IsAt views i other → i ≡ place → view ≡ other
  IsAt-same views i place view other at there is =
      maybe.some-injective view other (sym at ∙ subst (λ (k : ℕ). get_elem? views k ≡ maybe.some other) is there)

  -- whoever has the turn has the one ticket that is served
  pub HaveOneTurn-served : (views : List (View Ground Entry)) (now : ℕ) →
      EachView views (λ view. view.turn ≡ true → view.ticket ≡ Some now) → HaveDistinctTickets views → HaveOneTurn views
  HaveOneTurn-served views now served_only distinct i j view other one two turn other_turn =
      distinct i j now view other one two (served_only i view one turn) (served_only j other two other_turn)

-- at `place` stood `old`, where `new` stands now
module _ {Ground Entry : Type 0} (views : List (View Ground Entry)) (place : ℕ) (old new : View Ground Entry) (at : IsAt views place old) where
  pub new_at_place : IsAt (slice_set views place new) place new
  new_at_place = set_here views place new (in_range views place old at)

  -- what holds of the new view and held of each other one
  pub EachView-set : (Holds : View Ground Entry → Type 0) →
      Holds new → ((i : ℕ) (view : View Ground Entry) → i ≢ place → IsAt views i view → Holds view) →
      EachView (slice_set views place new) Holds
  EachView-set Holds mine others i view there =
      ⊎_elim
      (λ (here : (i ≡ place) × (new ≡ view)). subst Holds here.1 mine)
      (λ (elsewhere : (i ≢ place) × IsAt views i view). others i view elsewhere.0 elsewhere.1)
      (at_set views place i new view there)

  -- a view that has a ticket which the old one had not stands elsewhere
  elsewhere : (i ticket : ℕ) (view : View Ground Entry) →
      IsAt views i view → view.ticket ≡ Some ticket → (old.ticket ≡ Some ticket → ⊥) → i ≢ place
  elsewhere i ticket view there has lacks is =
      let same = IsAt-same views i place old view at there is in
      lacks (ap (λ (v : View Ground Entry). v.ticket) same ∙ has)

  -- where no other view has the new ticket, the tickets stay distinct
  pub HaveDistinctTickets-set : HaveDistinctTickets views →
      ((i ticket : ℕ) (view : View Ground Entry) → i ≢ place → IsAt views i view → view.ticket ≡ Some ticket → new.ticket ≡ Some ticket → ⊥) →
      HaveDistinctTickets (slice_set views place new)
  HaveDistinctTickets-set before fresh i j ticket view other one two has other_has =
      ⊎_elim
      (λ (x : (i ≡ place) × (new ≡ view)).
      ⊎_elim
      (λ (y : (j ≡ place) × (new ≡ other)). x.0 ∙ sym y.0)
      (λ (y : (j ≢ place) × IsAt views j other). absurd (fresh j ticket other y.0 y.1 other_has (ap (λ (v : View Ground Entry). v.ticket) x.1 ∙ has)))
      (at_set views place j new other two))
      (λ (x : (i ≢ place) × IsAt views i view).
      ⊎_elim
      (λ (y : (j ≡ place) × (new ≡ other)). absurd (fresh i ticket view x.0 x.1 has (ap (λ (v : View Ground Entry). v.ticket) y.1 ∙ other_has)))
      (λ (y : (j ≢ place) × IsAt views j other). before i j ticket view other x.1 y.1 has other_has)
      (at_set views place j new other two))
      (at_set views place i new view one)

  -- a view with the ticket that it had, or with none, adds no double
  pub HaveDistinctTickets-kept : HaveDistinctTickets views →
      ((ticket : ℕ) → new.ticket ≡ Some ticket → old.ticket ≡ Some ticket) → HaveDistinctTickets (slice_set views place new)
  HaveDistinctTickets-kept before keeps =
      HaveDistinctTickets-set before (λ i ticket view apart there has new_has. apart (before i place ticket view old there at has (keeps ticket new_has)))

  -- each ticket of the new range is the new view's, or one of the old range that the old view had not
  pub HaveEachTicket-set : (first end first' end' : ℕ) → HaveEachTicket views first end →
      ((ticket : ℕ) → first' ≤ ticket → ticket < end' → (new.ticket ≡ Some ticket) ⊎ ((first ≤ ticket) × (ticket < end) × (old.ticket ≢ Some ticket))) →
      HaveEachTicket (slice_set views place new) first' end'
  HaveEachTicket-set first end first' end' before from ticket low high =
      ⊎_elim
      (λ (is : new.ticket ≡ Some ticket). (place, new, new_at_place, is))
      (λ (is : (first ≤ ticket) × (ticket < end) × (old.ticket ≢ Some ticket)).
      let found = before ticket is.0 is.1 in
      let apart = elsewhere found.0 ticket found.1 found.2 found.3 is.2 in
      (found.0, found.1, set_else views place found.0 new apart ∙ found.2, found.3))
      (from ticket low high)

  -- a view that keeps its ticket leaves each ticket in some view
  pub HaveEachTicket-kept : (first end : ℕ) → HaveEachTicket views first end → new.ticket ≡ old.ticket → HaveEachTicket (slice_set views place new) first end
  HaveEachTicket-kept first end before same =
      HaveEachTicket-set first end first end before
      (λ ticket low high. dite (has_ticket old.ticket ticket) (λ has. inl (same ∙ has)) (λ lacks. inr (low, high, lacks)))

  -- where the view keeps its flag and nobody has the turn now, nobody had it
  pub nobody_before : new.turn ≡ old.turn → NobodyHasTurn (slice_set views place new) → NobodyHasTurn views
  nobody_before same nobody i view there =
      dite (ℕ_discrete i place)
      (λ (is : i ≡ place).
      let same_one = IsAt-same views i place old view at there is in
      ap (λ (v : View Ground Entry). v.turn) (sym same_one) ∙ (sym same ∙ nobody place new new_at_place))
      (λ (is_not : i ≢ place). nobody i view (set_else views place i new is_not ∙ there))
