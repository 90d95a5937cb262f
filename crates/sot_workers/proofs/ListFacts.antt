-- What stands in lists that were changed, and lists of drafts beside a history that goes on.
use Rattle.std.proofs.Common.{◌≡◌, ◌≢◌, ℕ, zero, suc, ◌+◌, ◌⊎◌, inl, inr, ⊎_elim, ℤ, Bool, Option, List, [], ◌∷◌, ◌++◌, length, refl, sym, ap, ◌∙◌, subst}
use Rattle.std.proofs.Common.{length-append, length-set, arith}
use Rattle.std.specs.Prelude.{slice_set}
use Rattle.std.proofs.lemmas.Bool.{ne_eqb}
use Rattle.std.proofs.lemmas.Option.{same_Some, none-some}
use Rattle.sot_lists.specs.Places.{At}
use Rattle.sot_turn.specs.Prefixes.{IsPrefix}
use Rattle.sot_world.specs.HistoryEntry.{Logged}
use Rattle.sot_flight.specs.Plans.{Plan}
use Rattle.sot_board.specs.Standing.{Standing}
use Rattle.sot_board.specs.Versions.{drafts_of}
use Rattle.sot_workers.specs.declared.lists.NodeList.{NodeList}
use Rattle.sot_workers.specs.Flying.{IsMine}
use Rattle.sot_workers.specs.Instants.{IsSameInstant, AddsNoFiring, AddsFiring}
use Rattle.sot_workers.specs.Lists.{HasNodes, AreMine, AreEmpty, KeepsLists}
use Rattle.sot_fly_worker.proofs.Firing.{in_step}
use Rattle.sot_fly_worker.proofs.Turning.{last_or_before}
use Rattle.sot_workers.proofs.Histories.{one_more, no_more}

pub at_set_cases : {A : Type 0} (xs : List A) (k i : ℕ) (v y : A) → At (slice_set xs k v) i y → ((i ≡ k) × (y ≡ v)) ⊎ ((i ≢ k) × At xs i y)
at_set_cases [] k i v y a = absurd (none-some y a)
at_set_cases (x ∷ xs) zero zero v y a = inl (refl, sym (same_Some v y a))
at_set_cases (x ∷ xs) zero (suc i) v y a = inr (λ e. omega (arith, e), a)
at_set_cases (x ∷ xs) (suc k) zero v y a = inr (λ e. omega (arith, e), a)
at_set_cases (x ∷ xs) (suc k) (suc i) v y a = ⊎_elim (λ e. inl (ap suc e.0, e.1)) (λ b. inr (λ e. b.0 (omega (arith, e)), b.1)) (at_set_cases xs k i v y a)

-- ---- one list a node

pub nodes_more : (k : ℕ) (lists : List NodeList) (list : NodeList) → HasNodes k lists → list.node ≡ k → HasNodes (k + 1) (lists ++ list ∷ [])
nodes_more k lists list has is = record {
  each = omega (arith, length-append lists (list ∷ []), has.each);
  nodes = λ n l at. ⊎_elim (λ b. has.nodes n l b) (λ e. ap (λ x. x.node) e.1 ∙ (is ∙ (sym has.each ∙ sym e.0))) (last_or_before lists list n l at);
}

pub nodes_set : (count : ℕ) (lists : List NodeList) (k : ℕ) (old new : NodeList) → HasNodes count lists → At lists k old → new.node ≡ old.node
    → HasNodes count (slice_set lists k new)
nodes_set count lists k old new has there same = record {
  each = length-set lists k new ∙ has.each;
  nodes = λ n l at. ⊎_elim (λ e. ap (λ x. x.node) e.1 ∙ (same ∙ (has.nodes k old there ∙ sym e.0))) (λ b. has.nodes n l b.1) (at_set_cases lists k n new l at);
}

-- ---- empty lists

pub empty_more : (k : ℕ) (lists : List NodeList) (list : NodeList) → AreEmpty k lists → list.node ≡ k → list.drafts.items ≡ []
    → AreEmpty (k + 1) (lists ++ list ∷ [])
empty_more k lists list all is none = record {
  nodes = nodes_more k lists list all.nodes is;
  drafts = λ n l at. ⊎_elim (λ b. all.drafts n l b) (λ e. ap (λ x. x.drafts.items) e.1 ∙ none) (last_or_before lists list n l at);
}

-- ---- the caller's own lists

pub own_quiet : (count : ℕ) (f : Plan) (away : List Bool) (lists : List NodeList) (es es' : List Logged) → AreMine count f away lists es → AddsNoFiring es es'
    → AreMine count f away lists es'
own_quiet count f away lists es es' own quiet = record { nodes = own.nodes; drafts = λ n list at mine. own.drafts n list at mine ∙ sym (quiet.drafts n) }

pub own_more :
    (t count : ℕ) (f : Plan) (away : List Bool) (lists : List NodeList) (es es' : List Logged) (k : ℕ) (draft : List (Option ℤ)) (old new : NodeList)
    → AreMine count f away lists es
    → AddsFiring t es k draft es' → IsMine f away k
    → At lists k old → new.node ≡ old.node → new.drafts.items ≡ old.drafts.items ++ draft ∷ [] → AreMine count f away (slice_set lists k new) es'
own_more t count f away lists es es' k draft old new own fires mine there same more = record {
  nodes = nodes_set count lists k old new own.nodes there same;
  drafts = λ n list at its. ⊎_elim
      (λ e. ap (λ l. l.drafts.items) e.1 ∙ (more ∙ (ap (λ l. l ++ draft ∷ []) (own.drafts k old there mine)
      ∙ (sym (one_more t k es es' draft fires) ∙ ap (λ i. drafts_of i es') (sym e.0)))))
      (λ b. own.drafts n list b.1 its ∙ sym (no_more t n k es es' draft (ne_eqb n k b.0) fires))
      (at_set_cases lists k n new list at);
}

pub own_compared :
    (count : ℕ) (f : Plan) (away : List Bool) (lists : List NodeList) (seen es : List Logged) → AreMine count f away lists seen → IsPrefix seen es
    → ((n : ℕ) (list : NodeList) → At lists n list → IsMine f away n → length (drafts_of n es) ≡ length list.drafts.items) → AreMine count f away lists es
own_compared count f away lists seen es own goes same = record {
  nodes = own.nodes;
  drafts = λ n list at mine.
      let was = own.drafts n list at mine in
      was ∙ sym (in_step n seen es goes (same n list at mine ∙ ap length was));
}

-- ---- beside a board

pub keeps_moved : (old new : Standing) (away : List Bool) (lists : List NodeList) → new.accepted ≡ old.accepted → new.plan ≡ old.plan
    → AreMine (length old.accepted.program.nodes) old.plan away lists new.entries → KeepsLists new away lists
keeps_moved old new away lists accepted plan own =
    subst (λ a. AreMine (length a.program.nodes) new.plan away lists new.entries) (sym accepted)
    (subst (λ f. AreMine (length old.accepted.program.nodes) f away lists new.entries) (sym plan) own)

pub keeps_more :
    (t : ℕ) (old new : Standing) (away : List Bool) (lists : List NodeList) (k : ℕ) (draft : List (Option ℤ)) (was now : NodeList)
    → KeepsLists old away lists → IsSameInstant old new
    → AddsFiring t old.entries k draft new.entries → IsMine old.plan away k
    → At lists k was → now.node ≡ was.node → now.drafts.items ≡ was.drafts.items ++ draft ∷ [] → KeepsLists new away (slice_set lists k now)
keeps_more t old new away lists k draft was now own same fires mine there node more =
    keeps_moved old new away (slice_set lists k now) same.accepted same.plan
    (own_more t (length old.accepted.program.nodes) old.plan away lists old.entries new.entries k draft was now own fires mine there node more)
