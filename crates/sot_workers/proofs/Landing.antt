-- The end of a flight, and what became of its guests.
use Rattle.std.proofs.Common.{◌≡◌, ℕ, ◌<◌, Bool, List, [], ◌++◌, length, Option, None, Some, refl, sym, ap, ◌∙◌, subst, append-nil, arith}
use Rattle.std.specs.Prelude.{slice_get}
use Rattle.std.proofs.lemmas.Option.{same_Some, none-some}
use Rattle.sot_lists.specs.Places.{At}
use Rattle.sot_tube.specs.Admitted.{Admitted}
use Rattle.sot_world.specs.HistoryEntry.{Logged}
use Rattle.sot_flight.specs.Plans.{Plan, Crew, Coded, Script, Wild, Guest}
use Rattle.sot_turn.specs.Prefixes.{IsPrefix}
use Rattle.sot_board.specs.Flown.{Position, FlownSoFar, FlownBy}
use Rattle.sot_board.specs.Standing.{Standing}
use Rattle.sot_board.specs.Versions.{drafts_of}
use Rattle.sot_fly_worker.specs.Askings.{Asking}
use Rattle.sot_fly_worker.specs.Answers.{Answered}
use Rattle.sot_fly_worker.proofs.Histories.{whole_histories_end}
use Rattle.sot_workers.specs.declared.lists.NodeList.{NodeList}
use Rattle.sot_workers.specs.declared.place.Done.{Done}
use Rattle.sot_workers.specs.Flying.{IsUnnamed}
use Rattle.sot_workers.specs.Lists.{AreLists, AreOwnLists, AreMine, AreEmpty}
use Rattle.sot_workers.specs.Pairs.{EachFrom}
use Rattle.sot_workers.specs.Sent.{IsCallers, HasSeenWhole, IsBack, IsDone, AreBack}
use Rattle.sot_workers.specs.Asked.{EachAnswered, EachUnnamedStays}
use Rattle.sot_workers.specs.Back.{IsGuestBack, FliesOnce, AreListsBack}
use Rattle.sot_workers.proofs.Histories.{goes_further}
use Rattle.sot_workers.proofs.PairFacts.{each_at}
use Rattle.sot_workers.proofs.Placing.{own_begins}

-- the caller's pass before any entry
pub callers_begin :
    (a : Admitted) (f : Plan) (away : List Bool) (ground : Option (Admitted × Plan)) (seen : List Logged) (lists : List NodeList) → ground ≡ Some (a, f)
    → length f.crews ≡ length a.program.nodes → seen ≡ [] → AreEmpty (length f.crews) lists
    → IsCallers a f away ground seen lists
callers_begin a f away ground seen lists is count none empty = record {
  ground_is = is;
  own =
      subst (λ s. AreMine (length a.program.nodes) f away lists s) (sym none)
      (subst (λ n. AreMine n f away lists []) count (own_begins (length f.crews) f away lists empty));
}

-- what the board has at its end is the whole history that was seen
pub whole_is :
    (a b : Admitted) (f h : Plan) (whole seen entries : List Logged) (Q : Position) → (a ≡ b) × (f ≡ h) → HasSeenWhole a f whole seen → IsPrefix seen entries
    → FlownSoFar b.program b.cert.jitter h entries Q
    → entries ≡ whole
whole_is a b f h whole seen entries Q same w p flown =
    let goes = goes_further whole seen entries w.1 p in
    let here : FlownSoFar a.program a.cert.jitter f entries Q =
    subst (λ x. FlownSoFar x.program x.cert.jitter f entries Q) (sym same.0) (subst (λ x. FlownSoFar b.program b.cert.jitter x entries Q) (sym same.1) flown) in
    let more : goes.0 ≡ [] = whole_histories_end a.program a.cert.jitter f whole goes.0 Q w.0
    (subst (λ es. FlownSoFar a.program a.cert.jitter f es Q) goes.1 here) in
    goes.1 ∙ (ap (λ l. whole ++ l) more ∙ append-nil whole)

-- what is back beside the board at its end
pub record AreHome {C : Type 0} (asked : C → Option (List Asking)) (b : Standing) (guests : List C) (lists : List NodeList) (dones : List (Done C)) : Type 0
  where
    pub flown : FlownBy b.accepted.program b.accepted.cert.jitter b.plan b.entries
    pub own : AreOwnLists (length lists) b.plan lists b.entries
    pub count : length lists ≡ length b.accepted.program.nodes
    pub each : EachFrom (IsDone asked b.accepted b.plan b.entries) 0 guests dones

module _ {C : Type 0} (asked : C → Option (List Asking)) where
  -- what is back is so beside the board whose ground and history they are
  pub are_home :
      (a : Admitted) (f : Plan) (b : Standing) (guests : List C) (seen : List Logged) (lists : List NodeList) (dones : List (Done C))
      → (a ≡ b.accepted) × (f ≡ b.plan) → (back : AreBack asked a f guests seen lists dones)
      → b.entries ≡ back.whole → AreHome asked b guests lists dones
  are_home a f b guests seen lists dones same back is =
      let move : (P : Admitted → Plan → List Logged → Type 0) → P a f back.whole → P b.accepted b.plan b.entries =
      λ P p. subst (λ x. P x b.plan b.entries) same.0 (subst (λ x. P a x b.entries) same.1 (subst (λ x. P a f x) (sym is) p)) in
      let own = move (λ x h es. AreOwnLists (length x.program.nodes) h lists es) back.own in
      record {
        flown = move (λ x h es. FlownBy x.program x.cert.jitter h es) back.seen_whole.0;
        own = subst (λ n. AreOwnLists n b.plan lists b.entries) (sym own.nodes.each) own;
        count = own.nodes.each;
        each = move (λ x h es. EachFrom (IsDone asked x h es) 0 guests dones) back.each;
      }

  -- a guest that is back has answered for the node that names it
  answered_by :
      (a : Admitted) (f : Plan) (history : List Logged) (n i : ℕ) (was now : C) → FliesOnce f → At f.crews n (Guest i) → (list : Option NodeList)
      → IsBack asked a f history i was now list
      → Answered a.program a.cert.jitter f n history (asked was) (asked now)
  answered_by a f history n i was now once crew None back = absurd (back.1 n crew)
  answered_by a f history n i was now once crew (Some list) back =
      subst (λ m. Answered a.program a.cert.jitter f m history (asked was) (asked now)) (once list.node n i back.0 crew) back.2

  -- and one that no node names has stayed
  stays_by : (a : Admitted) (f : Plan) (history : List Logged) (i : ℕ) (was now : C) → IsUnnamed f i → (list : Option NodeList)
      → IsBack asked a f history i was now list → now ≡ was
  stays_by a f history i was now unnamed None back = back.0
  stays_by a f history i was now unnamed (Some list) back = absurd (unnamed list.node back.0)

  -- the guest at a place
  back_at :
      (a : Admitted) (f : Plan) (history : List Logged) (before after : List C) (i : ℕ) (was now : C) → EachFrom (IsGuestBack asked a f history) 0 before after
      → At before i was → At after i now
      → IsGuestBack asked a f history i was now
  back_at a f history before after i was now each b t =
      subst (λ k. IsGuestBack asked a f history k was now) (omega arith) (each_at (IsGuestBack asked a f history) 0 before after i was now each b t)

  -- each guest that is named has answered
  pub each_answered : (a : Admitted) (f : Plan) (history : List Logged) (before after : List C) → FliesOnce f
      → EachFrom (IsGuestBack asked a f history) 0 before after → EachAnswered asked a f history before after
  each_answered a f history before after once each n i was now crew b t =
      (let back = back_at a f history before after i was now each b t in answered_by a f history n i was now once crew back.0 back.1)

  -- and each other one is the same
  pub each_stays : (a : Admitted) (f : Plan) (history : List Logged) (before after : List C) → EachFrom (IsGuestBack asked a f history) 0 before after
      → EachUnnamedStays f before after
  each_stays a f history before after each i was now unnamed b t =
      (let back = back_at a f history before after i was now each b t in stays_by a f history i was now unnamed back.0 back.1)

-- where all guests that are named are among those that came back, each list is that of its node
pub lists_are : (count : ℕ) (f : Plan) (guests : ℕ) (lists : List NodeList) (history : List Logged) → AreListsBack count f guests lists history
    → ((n i : ℕ) → At f.crews n (Guest i) → i < guests) → AreLists count lists history
lists_are count f guests lists history back there = record { nodes = back.nodes; drafts = λ n list at. by_crew n list at (slice_get f.crews n) refl }
  where
    by_crew : (n : ℕ) (list : NodeList) → At lists n list → (crew : Option Crew) → slice_get f.crews n ≡ crew → list.drafts.items ≡ drafts_of n history
    by_crew n list at None e = back.own n list at (λ i is. none-some (Guest i) (sym e ∙ is))
    by_crew n list at (Some (Guest i)) e = back.flown n i list at e (there n i e)
    by_crew n list at (Some Coded) e = back.own n list at (λ i is. let d : Coded ≡ Guest i = same_Some Coded (Guest i) (sym e ∙ is) in cc)
    by_crew n list at (Some (Script drafts)) e =
        back.own n list at (λ i is. let d : Script drafts ≡ Guest i = same_Some (Script drafts) (Guest i) (sym e ∙ is) in cc)
    by_crew n list at (Some (Wild spread seed stream)) e =
        back.own n list at (λ i is. let d : Wild spread seed stream ≡ Guest i = same_Some (Wild spread seed stream) (Guest i) (sym e ∙ is) in cc)
