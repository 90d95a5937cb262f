-- The workers of the nodes that no guest flies, stationed and relieved, and their lists.
use Rattle.std.proofs.Common.{◌≡◌, ℕ, zero, suc, ◌<◌, ◌⊎◌, inl, inr, ⊎_elim, Bool, true, false, List, [], ◌∷◌, ◌++◌, length, Option, None, Some}
use Rattle.std.proofs.Common.{refl, sym, ap, ◌∙◌, subst, arith, append_assoc, length-append}
use Rattle.std.specs.Prelude.{slice_index_or, vec_capacity}
use Rattle.std.proofs.lemmas.Bool.{cases_eq}
use Rattle.std.proofs.lemmas.Option.{same_Some}
use Rattle.atomic_table.specs.Seated.{TableId}
use Rattle.sot_lists.specs.Places.{At}
use Rattle.sot_eval_flat.specs.FlatForm.{IsFormOf}
use Rattle.sot_tube.specs.Admitted.{Admitted}
use Rattle.sot_world.specs.HistoryEntry.{Logged}
use Rattle.sot_flight.specs.Plans.{Plan}
use Rattle.sot_turn.specs.Prefixes.{IsPrefix}
use Rattle.sot_turn.specs.Passes.{pass_lock, pass_ground, pass_seen}
use Rattle.sot_board.specs.Flown.{FlownBy}
use Rattle.sot_board.specs.Versions.{drafts_of}
use Rattle.sot_fly_worker.specs.declared.shift.Shift.{Shift}
use Rattle.sot_fly_worker.specs.Askings.{Asking}
use Rattle.sot_fly_worker.specs.Rooms.{HasRoomFor}
use Rattle.sot_fly_worker.specs.Shifts.{HasItsGuest, IsOnShift}
use Rattle.sot_workers.specs.declared.lists.NodeList.{NodeList}
use Rattle.sot_workers.specs.declared.place.Station.{Station}
use Rattle.sot_workers.specs.declared.place.Station.TheVariants.{Guest, Caller, Thread}
use Rattle.sot_ordered_board.specs.Crews.{IsOwn}
use Rattle.sot_workers.specs.Lists.{HasNodes, AreOwnLists, AreMine}
use Rattle.sot_workers.specs.Back.{lists_after}
use Rattle.sot_workers.specs.Sent.{HasSeenWhole}
use Rattle.sot_workers.specs.Stations.{IsNodeShift, IsSent, IsAt, IsRelieved}
use Rattle.sot_workers.proofs.Histories.{goes_further}
use Rattle.sot_workers.proofs.ListFacts.{at_set_cases}
use Rattle.sot_workers.proofs.Placing.{whole_same}
use Rattle.sot_workers.proofs.Putting.{nodes_put}

module _ {C : Type 0} where
  -- a shift that may begin
  pub node_shift :
      (lock : TableId) (a : Admitted) (f : Plan) (n : ℕ) (shift : Shift C) → pass_lock shift.pass ≡ lock → pass_ground shift.pass ≡ Some (a, f)
      → shift.node < length a.program.nodes → HasItsGuest f shift.node shift.guest
      → shift.drafts.items ≡ [] → pass_seen shift.pass ≡ [] → HasRoomFor a.program.nodes f.horizon shift.node (vec_capacity shift.drafts)
      → IsFormOf a.program shift.node shift.form → shift.finished ≡ false → shift.node ≡ n
      → IsNodeShift lock a f n shift
  node_shift lock a f n shift of ground there guest none seen room form begins node = record {
    ready = record {
      at_work =
          record {
            accepted = a;
            plan = f;
            ground = ground;
            there = there;
            guest = guest;
            drafts = none ∙ ap (drafts_of shift.node) (sym seen);
            room = room;
            form = form;
          };
      lock_is = of;
      no_drafts = none;
      unfinished = begins;
    };
    ground = ground;
    node = node;
  }

  -- a worker whose shift was sent is at its node
  pub sent_at : (lock : TableId) (a : Admitted) (f : Plan) (n : ℕ) (began : Shift C) (station : Station C) → IsNodeShift lock a f n began
      → IsSent lock began station → IsAt lock a f n station
  sent_at lock a f n began Guest is sent = absurd sent
  sent_at lock a f n began (Caller pass) is sent = sent
  sent_at lock a f n began (Thread child) is sent = subst (IsNodeShift lock a f n) (sym sent) is

  -- what a shift that is at its end and its caller have seen begins one list, so it ends with the same history, whose drafts it has
  pub relieved_of :
      (asked : C → Option (List Asking)) (lock : TableId) (a : Admitted) (f : Plan) (whole : List Logged) (n : ℕ) (began now : Shift C)
      (seen joined : List Logged) (list : NodeList) → HasSeenWhole a f whole seen
      → IsPrefix seen joined → IsPrefix (pass_seen now.pass) joined → IsNodeShift lock a f n began → IsOnShift asked began now → now.finished ≡ true
      → list.node ≡ now.node → list.drafts ≡ now.drafts → IsRelieved whole n true (Some list)
  relieved_of asked lock a f whole n began now seen joined list w p q of on finished node drafts =
      let at = on.at_work in
      let ground : ◌≡◌ {A = Admitted × Plan} (at.accepted, at.plan) (a, f) = same_Some _ _ (sym at.ground ∙ (on.ground ∙ of.ground)) in
      let flown : FlownBy a.program a.cert.jitter f (pass_seen now.pass) =
      subst (λ (x : Admitted × Plan). FlownBy x.0.program x.0.cert.jitter x.1 (pass_seen now.pass)) ground (on.finished finished) in
      let same : pass_seen now.pass ≡ whole = whole_same a f whole (pass_seen now.pass) joined w.0 flown (goes_further whole seen joined w.1 p) q in
      let number : now.node ≡ n = on.node ∙ of.node in
      (node ∙ number, ap (λ d. d.items) drafts ∙ (at.drafts ∙ (ap (λ h. drafts_of now.node h) same ∙ ap (λ k. drafts_of k whole) number)))

-- the list of a node is so in each whole history that was seen
abbrev pub IsRelievedIn : Admitted → Plan → List Logged → ℕ → Bool → Option NodeList → Type 0
IsRelievedIn a f seen n away list = (whole : List Logged) → HasSeenWhole a f whole seen → IsRelieved whole n away list

-- ---- lists that come back

-- the lists of the first so many nodes, and of those whose workers had no thread, are the drafts of their firings where no guest flies them
pub record AreRelieved (count : ℕ) (f : Plan) (away : List Bool) (first : ℕ) (lists : List NodeList) (history : List Logged) : Type 0 where
  pub nodes : HasNodes count lists
  pub drafts : (n : ℕ) (list : NodeList) → At lists n list → IsOwn f n → (n < first) ⊎ (slice_index_or away n false ≡ false)
      → list.drafts.items ≡ drafts_of n history

pub none_relieved : (count : ℕ) (f : Plan) (away : List Bool) (lists : List NodeList) (history : List Logged) → AreMine count f away lists history
    → AreRelieved count f away 0 lists history
none_relieved count f away lists history mine = record {
  nodes = mine.nodes;
  drafts = λ n list at own which. ⊎_elim (λ lt. absurd (omega (arith, lt))) (λ here. mine.drafts n list at (own, here)) which;
}

-- what stands behind a list, at its length
pub index_behind : (front : List Bool) (x : Bool) (rest : List Bool) → slice_index_or (front ++ x ∷ rest) (length front) false ≡ x
index_behind [] x rest = refl
index_behind (y ∷ front) x rest = index_behind front x rest

-- within a list, or behind it
within_or_not : (xs : List Bool) (n : ℕ) → (n < length xs) ⊎ (slice_index_or xs n false ≡ false)
within_or_not [] n = inr refl
within_or_not (x ∷ xs) zero = inl (omega arith)
within_or_not (x ∷ xs) (suc n) = ⊎_elim (λ lt. inl (omega (arith, lt))) (λ none. inr none) (within_or_not xs n)

-- one more is relieved
pub one_relieved :
    (count : ℕ) (f : Plan) (away : List Bool) (lists : List NodeList) (history : List Logged) (front : List Bool) (last : Bool) (list : Option NodeList)
    → IsPrefix (front ++ last ∷ []) away
    → IsRelieved history (length front) last list → AreRelieved count f away (length front) lists history
    → AreRelieved count f away (length (front ++ last ∷ [])) (lists_after lists list) history
one_relieved count f away lists history front last None on is before =
    let size = length-append front (last ∷ []) in
    let all : away ≡ front ++ last ∷ on.0 = on.1 ∙ append_assoc front (last ∷ []) on.0 in
    let here : slice_index_or away (length front) false ≡ false =
    ap (λ l. slice_index_or l (length front) false) all ∙ (index_behind front last on.0 ∙ is) in
    record {
      nodes = before.nodes;
      drafts = λ n l at own which. before.drafts n l at own (⊎_elim
          (λ lt. ⊎_elim (λ same. inr (subst (λ k. slice_index_or away k false ≡ false) (sym same) here)) (λ other. inl (omega (arith, lt, size, other)))
          (cases_eq n (length front)))
          (λ none. inr none) which);
    }
one_relieved count f away lists history front last (Some one) on is before =
    let size = length-append front (last ∷ []) in
    record {
      nodes = nodes_put count lists one before.nodes;
      drafts = λ n l at own which. ⊎_elim
          (λ e. ap (λ x. x.drafts.items) e.1 ∙ (is.1 ∙ ap (λ k. drafts_of k history) (sym (e.0 ∙ is.0))))
          (λ b. before.drafts n l b.1 own (⊎_elim
          (λ lt. inl (omega (arith, lt, size, is.0, b.0)))
          (λ none. inr none) which))
          (at_set_cases lists one.node n one l at);
    }

-- all are
pub all_relieved : (count : ℕ) (f : Plan) (away : List Bool) (lists : List NodeList) (history : List Logged)
    → AreRelieved count f away (length away) lists history → AreOwnLists count f lists history
all_relieved count f away lists history all =
    record { nodes = all.nodes; drafts = λ n list at own. all.drafts n list at own (within_or_not away n) }
