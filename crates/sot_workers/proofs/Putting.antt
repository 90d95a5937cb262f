-- What is put back, one guest after another.
use Rattle.std.proofs.Common.{◌≡◌, ℕ, suc, ◌+◌, ⊎_elim, List, [], ◌∷◌, ◌++◌, length, Option, None, Some, sym, ap, ◌∙◌, subst, length-set, arith}
use Rattle.std.specs.Prelude.{slice_set}
use Rattle.std.proofs.lemmas.Bool.{cases_eq}
use Rattle.std.proofs.lemmas.List.{length_push}
use Rattle.sot_lists.specs.Places.{At}
use Rattle.sot_tube.specs.Admitted.{Admitted}
use Rattle.sot_world.specs.HistoryEntry.{Logged}
use Rattle.sot_flight.specs.Plans.{Plan, Guest}
use Rattle.sot_board.specs.Versions.{drafts_of}
use Rattle.sot_fly_worker.specs.Askings.{Asking}
use Rattle.sot_workers.specs.declared.lists.NodeList.{NodeList}
use Rattle.sot_workers.specs.declared.place.Done.{Done}
use Rattle.sot_workers.specs.Lists.{HasNodes, AreOwnLists}
use Rattle.sot_workers.specs.Pairs.{EachFrom}
use Rattle.sot_workers.specs.Sent.{IsBack, IsDone}
use Rattle.sot_workers.specs.Back.{IsGuestBack, FliesOnce, AreListsBack, lists_after}
use Rattle.sot_workers.proofs.ListFacts.{at_set_cases}
use Rattle.sot_workers.proofs.PairFacts.{each_more, each_none}

-- the first list of a pair of lists of which the second one ends so
pub record EndsWith {A B : Type 0} (R : ℕ → A → B → Type 0) (k : ℕ) (xs : List A) (ys : List B) (y : B) : Type 0 where
  pub front : List A
  pub last : A
  pub is : xs ≡ front ++ last ∷ []
  pub each : EachFrom R k front ys
  pub here : R (k + length front) last y

pub each_last : {A B : Type 0} (R : ℕ → A → B → Type 0) (k : ℕ) (xs : List A) (ys : List B) (y : B) → EachFrom R k xs (ys ++ y ∷ []) → EndsWith R k xs ys y
each_last R k [] [] y e = absurd e
each_last R k [] (z ∷ ys) y e = absurd e
each_last R k (x ∷ xs) [] y e = record {
  front = [];
  last = x;
  is = ap (λ l. x ∷ l) (each_none R (suc k) xs e.1);
  each = tt;
  here = subst (λ n. R n x y) (omega arith) e.0;
}
each_last R k (w ∷ xs) (z ∷ ys) y e =
    let r : EndsWith R (suc k) xs ys y = each_last R (suc k) xs ys y e.1 in
    record {
      front = w ∷ r.front;
      last = r.last;
      is = ap (λ l. w ∷ l) r.is;
      each = (e.0, r.each);
      here = subst (λ n. R n r.last y) (omega arith) r.here;
    }

-- a list comes to its node, where there is one
pub nodes_put : (count : ℕ) (lists : List NodeList) (one : NodeList) → HasNodes count lists → HasNodes count (slice_set lists one.node one)
nodes_put count lists one has = record {
  each = length-set lists one.node one ∙ has.each;
  nodes = λ n l at. ⊎_elim (λ e. ap (λ x. x.node) e.1 ∙ sym e.0) (λ b. has.nodes n l b.1) (at_set_cases lists one.node n one l at);
}

-- before any guest is back
own_back : (count : ℕ) (f : Plan) (lists : List NodeList) (history : List Logged) → AreOwnLists count f lists history → AreListsBack count f 0 lists history
own_back count f lists history own = record { nodes = own.nodes; own = own.drafts; flown = λ n i list at crew lt. absurd (omega (arith, lt)) }

module _ {C : Type 0} (asked : C → Option (List Asking)) (a : Admitted) (f : Plan) (history : List Logged) where
  pub guests_first : (was guests : List C) → guests ≡ [] → EachFrom (IsDone asked a f history) 0 was [] → EachFrom (IsGuestBack asked a f history) 0 was guests
  guests_first was guests none each =
      subst (λ ys. EachFrom (IsGuestBack asked a f history) 0 was ys) (sym none)
      (subst (λ xs. EachFrom (IsGuestBack asked a f history) 0 xs []) (sym (each_none (IsDone asked a f history) 0 was each)) tt)

  pub lists_first : (count : ℕ) (lists : List NodeList) (was : List C) → EachFrom (IsDone asked a f history) 0 was [] → AreOwnLists count f lists history
      → AreListsBack count f (length was) lists history
  lists_first count lists was each own =
      subst (λ (xs : List C). AreListsBack count f (length xs) lists history) (sym (each_none (IsDone asked a f history) 0 was each))
      (own_back count f lists history own)

  -- one guest more is back
  pub guest_more :
      (was : List C) (dones : List (Done C)) (guests : List C) (done : Done C) → EachFrom (IsDone asked a f history) 0 was (dones ++ done ∷ [])
      → ((w : List C) → EachFrom (IsDone asked a f history) 0 w dones → EachFrom (IsGuestBack asked a f history) 0 w guests)
      → EachFrom (IsGuestBack asked a f history) 0 was (guests ++ done.guest ∷ [])
  guest_more was dones guests done each go =
      let l : EndsWith (IsDone asked a f history) 0 was dones done = each_last (IsDone asked a f history) 0 was dones done each in
      subst (λ xs. EachFrom (IsGuestBack asked a f history) 0 xs (guests ++ done.guest ∷ [])) (sym l.is)
      (each_more (IsGuestBack asked a f history) 0 l.front guests l.last done.guest (go l.front l.each) (done.list, l.here))

  -- and its list at its node
  list_more :
      (count number : ℕ) (lists : List NodeList) (was now : C) (list : Option NodeList) → FliesOnce f → AreListsBack count f number lists history
      → IsBack asked a f history number was now list
      → AreListsBack count f (number + 1) (lists_after lists list) history
  list_more count number lists was now None once all back = record {
    nodes = all.nodes;
    own = all.own;
    flown = λ n i l at crew lt. ⊎_elim
        (λ same. absurd (back.1 n (subst (λ j. At f.crews n (Guest j)) same crew)))
        (λ other. all.flown n i l at crew (omega (arith, lt, other)))
        (cases_eq i number);
  }
  list_more count number lists was now (Some one) once all back = record {
    nodes = nodes_put count lists one all.nodes;
    own = λ n l at mine. ⊎_elim
        (λ e. absurd (mine number (subst (λ m. At f.crews m (Guest number)) (sym e.0) back.0)))
        (λ b. all.own n l b.1 mine)
        (at_set_cases lists one.node n one l at);
    flown = λ n i l at crew lt. ⊎_elim
        (λ e. ap (λ x. x.drafts.items) e.1 ∙ (back.1 ∙ ap (λ m. drafts_of m history) (sym e.0)))
        (λ b. ⊎_elim
        (λ same. absurd (b.0 (once n one.node number (subst (λ j. At f.crews n (Guest j)) same crew) back.0)))
        (λ other. all.flown n i l b.1 crew (omega (arith, lt, other)))
        (cases_eq i number))
        (at_set_cases lists one.node n one l at);
  }

  pub lists_more :
      (count : ℕ) (lists : List NodeList) (was : List C) (dones : List (Done C)) (done : Done C)
      → EachFrom (IsDone asked a f history) 0 was (dones ++ done ∷ [])
      → FliesOnce f
      → ((w : List C) → EachFrom (IsDone asked a f history) 0 w dones → AreListsBack count f (length w) lists history)
      → AreListsBack count f (length was) (lists_after lists done.list) history
  lists_more count lists was dones done each once go =
      let l : EndsWith (IsDone asked a f history) 0 was dones done = each_last (IsDone asked a f history) 0 was dones done each in
      let size : length l.front + 1 ≡ length was = omega (arith, ap length l.is, length_push l.front l.last) in
      let number : 0 + length l.front ≡ length l.front = omega arith in
      let here : IsBack asked a f history (length l.front) l.last done.guest done.list = subst (λ n. IsDone asked a f history n l.last done) number l.here in
      subst (λ n. AreListsBack count f n (lists_after lists done.list) history) size
      (list_more count (length l.front) lists l.last done.guest done.list once (go l.front l.each) here)
