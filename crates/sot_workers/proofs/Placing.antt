-- Guests that leave with their shifts, and come back.
use Rattle.std.proofs.Common.{◌≡◌, ℕ, ⊎_elim, Bool, true, List, [], ◌++◌, Option, None, Some, refl, sym, ap, ◌∙◌, subst, append-nil}
use Rattle.std.specs.Prelude.{slice_set}
use Rattle.std.proofs.lemmas.Option.{same_Some, none-some}
use Rattle.atomic_table.specs.Seated.{TableId}
use Rattle.sot_lists.specs.Places.{At}
use Rattle.sot_tube.specs.Admitted.{Admitted}
use Rattle.sot_world.specs.HistoryEntry.{Logged}
use Rattle.sot_flight.specs.Plans.{Plan, Guest}
use Rattle.sot_turn.specs.Prefixes.{IsPrefix}
use Rattle.sot_turn.specs.Passes.{pass_seen}
use Rattle.sot_board.specs.Flown.{FlownSoFar, FlownBy}
use Rattle.sot_board.specs.Versions.{drafts_of}
use Rattle.sot_fly_worker.specs.declared.shift.Shift.{Shift}
use Rattle.sot_fly_worker.specs.Askings.{Asking}
use Rattle.sot_fly_worker.specs.Answers.{Answered}
use Rattle.sot_fly_worker.specs.Shifts.{EachGuest, IsOnShift}
use Rattle.sot_fly_worker.proofs.Histories.{whole_histories_end}
use Rattle.sot_workers.specs.declared.lists.NodeList.{NodeList}
use Rattle.sot_workers.specs.declared.place.Place.{Place}
use Rattle.sot_workers.specs.declared.place.Place.TheVariants.{Stays, Out, Here}
use Rattle.sot_workers.specs.declared.place.Done.{Done}
use Rattle.sot_workers.specs.Lists.{AreMine, AreEmpty}
use Rattle.sot_workers.specs.Sent.{HasSeenWhole, IsShiftOf, IsStarted, IsPlaced, IsBack, IsDone}
use Rattle.sot_workers.proofs.Histories.{goes_further}
use Rattle.sot_workers.proofs.ListFacts.{nodes_set, at_set_cases}
use Rattle.sot_workers.proofs.PairFacts.{either_begins}

-- a list that is emptied among empty ones
pub empty_set : (count : ℕ) (lists : List NodeList) (k : ℕ) (old new : NodeList) → AreEmpty count lists → At lists k old → new.node ≡ old.node
    → new.drafts.items ≡ [] → AreEmpty count (slice_set lists k new)
empty_set count lists k old new all there same none = record {
  nodes = nodes_set count lists k old new all.nodes there same;
  drafts = λ n list at. ⊎_elim (λ e. ap (λ l. l.drafts.items) e.1 ∙ none) (λ b. all.drafts n list b.1) (at_set_cases lists k n new list at);
}

-- before any entry, empty lists are the caller's own
pub own_begins : (count : ℕ) (f : Plan) (away : List Bool) (lists : List NodeList) → AreEmpty count lists → AreMine count f away lists []
own_begins count f away lists all = record { nodes = all.nodes; drafts = λ n list at its. all.drafts n list at }

module _ {C : Type 0} (asked : C → Option (List Asking)) where
  -- a guest is placed once its shift was started
  pub placed_started :
      (lock : TableId) (a : Admitted) (f : Plan) (number : ℕ) (guest : C) (began : Shift C) (place : Place C) → IsShiftOf lock a f number guest began
      → IsStarted asked began place
      → IsPlaced asked lock a f number guest place
  placed_started lock a f number guest began (Stays same) ready started = absurd started
  placed_started lock a f number guest began (Out child) ready started = subst (IsShiftOf lock a f number guest) (sym started) ready
  placed_started lock a f number guest began (Here None) ready started = absurd started
  placed_started lock a f number guest began (Here (Some now)) ready started = (began, ready, started.on_shift)

-- two whole histories of a flight that are beginnings of one list are the same
pub whole_same :
    (a : Admitted) (f : Plan) (one other joined : List Logged) → FlownBy a.program a.cert.jitter f one → FlownBy a.program a.cert.jitter f other
    → IsPrefix one joined → IsPrefix other joined → other ≡ one
whole_same a f one other joined w v p q =
    ⊎_elim
    (λ goes. goes.1 ∙ (ap (λ l. one ++ l) (ends one other w v goes) ∙ append-nil one))
    (λ goes. sym (goes.1 ∙ (ap (λ l. other ++ l) (ends other one v w goes) ∙ append-nil other)))
    (either_begins one other joined p q)
  where
    ends : (xs ys : List Logged) → FlownBy a.program a.cert.jitter f xs → FlownBy a.program a.cert.jitter f ys → (goes : IsPrefix xs ys) → goes.0 ≡ []
    ends xs ys x y goes = whole_histories_end a.program a.cert.jitter f xs goes.0 y.0 x (subst (λ es. FlownSoFar a.program a.cert.jitter f es y.0) goes.1 y.1)

module _ {C : Type 0} (asked : C → Option (List Asking)) where
  -- a shift of a guest has a guest still
  pub guest_stays : (Relates : Option (List Asking) → Option (List Asking) → Type 0) (before : C) (was now : Option C) → was ≡ Some before
      → EachGuest Relates asked was now → (guest : C) × (now ≡ Some guest)
  guest_stays Relates before None None is each = absurd (none-some before is)
  guest_stays Relates before None (Some after) is each = absurd each
  guest_stays Relates before (Some b) None is each = absurd each
  guest_stays Relates before (Some b) (Some after) is each = (after, refl)

  -- so has one that is on shift
  pub has_guest : (began now : Shift C) (guest : C) → began.guest ≡ Some guest → IsOnShift asked began now → (g : C) × (now.guest ≡ Some g)
  has_guest began now guest is on =
      let at = on.at_work in
      guest_stays (Answered at.accepted.program at.accepted.cert.jitter at.plan now.node (pass_seen now.pass)) guest began.guest now.guest is on.guest

  -- what is so related of each guest is so of this one
  guest_relates : (Relates : Option (List Asking) → Option (List Asking) → Type 0) (before after : C) (was now : Option C) → was ≡ Some before
      → now ≡ Some after → EachGuest Relates asked was now → Relates (asked before) (asked after)
  guest_relates Relates before after was now w n each =
      subst (λ o. EachGuest Relates asked (Some before) o) n (subst (λ o. EachGuest Relates asked o now) w each)

  -- what a shift that is at its end and its caller have seen begins one list, so it ends with the same history, whose drafts and answers it has
  pub done_of :
      (lock : TableId) (a : Admitted) (f : Plan) (whole : List Logged) (number : ℕ) (guest : C) (began now : Shift C) (seen joined : List Logged)
      (done : Done C) (list : NodeList) → HasSeenWhole a f whole seen
      → IsPrefix seen joined → IsPrefix (pass_seen now.pass) joined → IsShiftOf lock a f number guest began → IsOnShift asked began now → now.finished ≡ true
      → now.guest ≡ Some done.guest → done.list ≡ Some list
      → list.node ≡ now.node → list.drafts ≡ now.drafts → IsDone asked a f whole number guest done
  done_of lock a f whole number guest began now seen joined done list w p q of on finished has lists node drafts =
      let at = on.at_work in
      let ground : ◌≡◌ {A = Admitted × Plan} (at.accepted, at.plan) (a, f) = same_Some _ _ (sym at.ground ∙ (on.ground ∙ of.ground)) in
      let flown : FlownBy a.program a.cert.jitter f (pass_seen now.pass) =
      subst (λ (x : Admitted × Plan). FlownBy x.0.program x.0.cert.jitter x.1 (pass_seen now.pass)) ground (on.finished finished) in
      let same : pass_seen now.pass ≡ whole = whole_same a f whole (pass_seen now.pass) joined w.0 flown (goes_further whole seen joined w.1 p) q in
      let answered = guest_relates (Answered at.accepted.program at.accepted.cert.jitter at.plan now.node (pass_seen now.pass)) guest done.guest began.guest
      now.guest of.carries has on.guest in
      let on_it : Answered a.program a.cert.jitter f now.node (pass_seen now.pass) (asked guest) (asked done.guest) =
      subst
      (λ (x : Admitted × Plan). Answered x.0.program x.0.cert.jitter x.1 now.node (pass_seen now.pass) (asked guest) (asked done.guest)) ground
      answered in
      let whole_it : Answered a.program a.cert.jitter f list.node whole (asked guest) (asked done.guest) =
      subst (λ n. Answered a.program a.cert.jitter f n whole (asked guest) (asked done.guest)) (sym node)
      (subst (λ h. Answered a.program a.cert.jitter f now.node h (asked guest) (asked done.guest)) same on_it) in
      let drafts_are : list.drafts.items ≡ drafts_of list.node whole =
      ap (λ d. d.items) drafts ∙ (at.drafts ∙ (ap (λ h. drafts_of now.node h) same ∙ ap (λ n. drafts_of n whole) (sym node))) in
      let crew : At f.crews list.node (Guest number) = subst (λ n. At f.crews n (Guest number)) (sym (node ∙ on.node)) of.crew in
      subst (λ l. IsBack asked a f whole number guest done.guest l) (sym lists) (crew, drafts_are, whole_it)

  -- a guest is done in each whole history that was seen
  abbrev pub IsDoneIn : Admitted → Plan → List Logged → ℕ → C → Done C → Type 0
  IsDoneIn a f seen number guest done = (whole : List Logged) → HasSeenWhole a f whole seen → IsDone asked a f whole number guest done

-- a whole history that was seen was seen later too
pub seen_later : (a : Admitted) (f : Plan) (whole seen later : List Logged) → IsPrefix seen later → HasSeenWhole a f whole seen → HasSeenWhole a f whole later
seen_later a f whole seen later p w = (w.0, goes_further whole seen later w.1 p)

-- what a ground is
pub ground_same : (ground : Option (Admitted × Plan)) (a b : Admitted) (f g : Plan) → ground ≡ Some (a, f) → ground ≡ Some (b, g) → (a ≡ b) × (f ≡ g)
ground_same ground a b f g e h =
    (let s : ◌≡◌ {A = Admitted × Plan} (a, f) (b, g) = same_Some _ _ (sym e ∙ h) in (ap (λ (x : Admitted × Plan). x.0) s, ap (λ (x : Admitted × Plan). x.1) s))
