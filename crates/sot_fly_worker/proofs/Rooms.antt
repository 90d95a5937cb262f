-- A node fires at most as often as it is due.
use Rattle.std.proofs.Common.{◌≡◌, ℕ, suc, ◌+◌, ◌-◌, ◌<◌, ◌≤◌, ◌⊎◌, inl, inr, ⊎_elim, Bool, true, false, List, [], ◌∷◌, length, refl, sym, ap, ◌∙◌, subst}
use Rattle.std.proofs.Common.{arith, eq-eqb}
use Rattle.std.specs.Prelude.{slice_index_or, slice_set, ◌==◌, if◌then◌else◌}
use Rattle.std.proofs.lemmas.Bool.{cases_eq, ne_eqb, false≢true}
use Rattle.std.proofs.lemmas.List.{length-append}
use Rattle.sot_lists.specs.Places.{At}
use Rattle.sot_lists.proofs.Places.{at_below}
use Rattle.sot_lang.specs.declared.tables.NodeInfo.{NodeInfo}
use Rattle.sot_lang.specs.Tables.{Tables}
use Rattle.sot_calendar.specs.Due.{IsDue}
use Rattle.sot_world.specs.Configurations.{Configuration, is_left, IsOpening}
use Rattle.sot_world.specs.Steps.{Event, Input, Code, Guest, Decide, Tick, Step}
use Rattle.sot_world.specs.Outcomes.{Recorded}
use Rattle.sot_world.specs.HistoryEntry.{Logged}
use Rattle.sot_world.proofs.Modes.{left_same, left_none}
use Rattle.sot_flight.specs.Plans.{Plan}
use Rattle.sot_flight.specs.Counts.{due_once, due_count}
use Rattle.sot_board.specs.Flown.{Position, Tells, Leads}
use Rattle.sot_board.specs.Room.{due_after, one_if}
use Rattle.sot_board.specs.Standing.{Standing, IsStanding}
use Rattle.sot_board.specs.Versions.{drafts_of}
use Rattle.sot_board.proofs.RoomLemmas.{once_due, count_from_0}
use Rattle.sot_board.proofs.Entries.{drafts_append}
use Rattle.sot_fly_worker.specs.Rooms.{HasRoomFor}

-- a firing has one draft where it is the node's
one_draft : {A : Type 0} (b : Bool) (x : A) → length (if b then x ∷ [] else []) ≡ one_if b
one_draft true x = refl
one_draft false x = refl

-- what is left now was left before, or is due now
still_left : (was now : Bool) (n : ℕ) → (now ≡ true → (was ≡ true) ⊎ (n ≡ 1)) → one_if now ≤ one_if was + n
still_left was false n h = omega arith
still_left true true n h = omega arith
still_left false true n h = ⊎_elim (λ e. absurd (false≢true e)) (λ due. omega (arith, due)) (h refl)

module _ (p : Tables) (j : ℕ) (f : Plan) (n : ℕ) (node : NodeInfo) (at : At p.nodes n node) where
  -- so many firings so far, and what is left or due from here to the horizon, are at most all times when the node is due
  IsWithin : ℕ → Configuration → Type 0
  IsWithin c C =
      (k : ℕ) → C.time + k ≡ f.horizon
      → c + (one_if (is_left C n) + due_after node.period node.offset C.time k) ≤ due_count node.period node.offset f.horizon

  within_first : (start : List (List _)) (C : Configuration) → IsOpening p start C → IsWithin 0 C
  unfolding IsWithin
  within_first start C o k e =
      let here = still_left false (is_left C n) (due_once node.period node.offset 0)
      (λ left. inr (once_due node.period node.offset 0 ((o.left n node at).0 left))) in
      let after = ap (λ t. due_after node.period node.offset t k) o.time in
      let all = count_from_0 node.period node.offset k in
      let ends : k ≡ f.horizon = omega (arith, o.time, e) in
      omega (arith, here, after, all, ap (due_count node.period node.offset) ends)

  -- where neither time nor what is left of the node changes
  within_stays : (C D : Configuration) (c : ℕ) → D.time ≡ C.time → is_left D n ≡ is_left C n → IsWithin c C → IsWithin (c + 0) D
  unfolding IsWithin
  within_stays C D c time left h k e =
      let was = h k (omega (arith, time, e)) in
      omega (arith, was, ap one_if left, ap (λ t. due_after node.period node.offset t k) time)

  -- a node fires, this one or another
  within_fires : (C D : Configuration) (c k : ℕ) → D.time ≡ C.time → is_left C k ≡ true → D.left ≡ slice_set C.left k false → IsWithin c C
      → IsWithin (c + one_if (n == k)) D
  unfolding IsWithin
  within_fires C D c k time was left h = ⊎_elim this other (cases_eq n k)
    where
      this : n ≡ k → IsWithin (c + one_if (n == k)) D
      this same i e =
          let before = h i (omega (arith, time, e)) in
          let had : one_if (is_left C n) ≡ 1 = ap one_if (subst (λ m. is_left C m ≡ true) (sym same) was) in
          let gone : one_if (is_left D n) ≡ 0 =
          ap one_if (ap (λ xs. slice_index_or xs n false) left ∙ ap (λ m. slice_index_or (slice_set C.left m false) n false) (sym same) ∙ left_none C.left n) in
          let one : one_if (n == k) ≡ 1 = ap one_if (eq-eqb n k same) in
          omega (arith, before, had, gone, one, ap (λ t. due_after node.period node.offset t i) time)

      other : (n ≡ k → ⊥) → IsWithin (c + one_if (n == k)) D
      other ne i e =
          let before = h i (omega (arith, time, e)) in
          let stays : one_if (is_left D n) ≡ one_if (is_left C n) =
          ap one_if (ap (λ xs. slice_index_or xs n false) left ∙ left_same C.left k n ne) in
          let none : one_if (n == k) ≡ 0 = ap one_if (ne_eqb n k ne) in
          omega (arith, before, stays, none, ap (λ t. due_after node.period node.offset t i) time)

  within_tick : (C D : Configuration) (c : ℕ) → D.time ≡ suc C.time
      → ((is_left D n ≡ true) → (is_left C n ≡ true) ⊎ IsDue node.period node.offset D.time) → IsWithin c C → IsWithin (c + 0) D
  unfolding IsWithin
  within_tick C D c time sets h k e =
      let before = h (suc k) (omega (arith, time, e)) in
      let here = still_left (is_left C n) (is_left D n) (due_once node.period node.offset (suc C.time))
      (λ left. ⊎_elim (λ was. inl was) (λ due. inr (once_due node.period node.offset (suc C.time) (subst (IsDue node.period node.offset) time due))) (sets left)) in
      omega (arith, before, here, ap (λ t. due_after node.period node.offset t k) time)

  within_event : (C D : Configuration) (e : Event) (r : Recorded) (entry : Logged) (c : ℕ) → Step p j C e D → Tells C e r D entry → IsWithin c C
      → IsWithin (c + length (drafts_of n (entry ∷ []))) D
  within_event C D (Input topic value) r entry c s tells h =
      subst (λ x. IsWithin (c + length (drafts_of n (x ∷ []))) D) (sym tells)
      (within_stays C D c (ap (λ (x : Configuration). x.time) s.rest) (ap (λ (x : Configuration). is_left x n) s.rest) h)
  within_event C D (Code k) r entry c s tells h =
      let one = one_draft (n == k) _ in
      subst (λ x. IsWithin (c + length (drafts_of n (x ∷ []))) D) (sym tells.3)
      (subst (λ i. IsWithin (c + i) D) (sym one) (within_fires C D c k s.fires.time s.fires.was_left s.fires.left h))
  within_event C D (Guest k draft) r entry c s tells h =
      let one = one_draft (n == k) _ in
      subst (λ x. IsWithin (c + length (drafts_of n (x ∷ []))) D) (sym tells.3)
      (subst (λ i. IsWithin (c + i) D) (sym one) (within_fires C D c k s.fires.time s.fires.was_left s.fires.left h))
  within_event C D (Decide m) r entry c s tells h =
      subst (λ x. IsWithin (c + length (drafts_of n (x ∷ []))) D) (sym tells.2)
      (within_stays C D c (ap (λ (x : Configuration). x.time) s.rest) (ap (λ (x : Configuration). is_left x n) s.rest) h)
  within_event C D (Tick noise) r entry c s tells h =
      subst (λ x. IsWithin (c + length (drafts_of n (x ∷ []))) D) (sym tells) (within_tick C D c s.time (s.left n node at).0 h)

  -- along a history
  within_along : (P : Position) (entries : List Logged) (Q : Position) (c : ℕ) → Leads p j f P entries Q → IsWithin c P.at
      → IsWithin (c + length (drafts_of n entries)) Q.at
  within_along P [] Q c same h = subst (λ (R : Position). IsWithin (c + 0) R.at) same (subst (λ i. IsWithin i P.at) (omega arith) h)
  within_along P (entry ∷ entries) Q c (R, flies, rest) h =
      let one = within_event P.at R.at flies.event flies.recorded entry c flies.step flies.tells h in
      let all = within_along R entries Q (c + length (drafts_of n (entry ∷ []))) rest one in
      let sizes = ap length (drafts_append n (entry ∷ []) entries) ∙ length-append (drafts_of n (entry ∷ [])) (drafts_of n entries) in
      subst (λ i. IsWithin i Q.at) (omega (arith, sizes)) all

  pub fires_within : (start : List (List _)) (P : Position) (entries : List Logged) (Q : Position) → IsOpening p start P.at → Leads p j f P entries Q
      → Q.at.time ≤ f.horizon → length (drafts_of n entries) ≤ due_count node.period node.offset f.horizon
  unfolding IsWithin
  fires_within start P entries Q o leads in_time =
      let all = within_along P entries Q 0 leads (within_first start P.at o) (f.horizon - Q.at.time) (omega (arith, in_time)) in
      omega (arith, all)

-- a list with room for all times when a node is due has room for the drafts of all its firings
pub room_for_all : (b : Standing) → IsStanding b → (n room : ℕ) → n < length b.accepted.program.nodes
    → HasRoomFor b.accepted.program.nodes b.plan.horizon n room → length (drafts_of n b.entries) ≤ room
room_for_all b standing n room lt has =
    let info = at_below b.accepted.program.nodes n lt in
    let few = fires_within b.accepted.program b.accepted.cert.jitter b.plan n info.0 info.1 b.plan.start standing.flown.0 b.entries b.position
    standing.flown.1.opening standing.flown.2 standing.in_time in
    omega (arith, few, has info.0 info.1)
