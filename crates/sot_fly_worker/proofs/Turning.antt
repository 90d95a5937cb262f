-- A shift after a turn is on shift from where it began.
use Rattle.std.proofs.Common.{◌≡◌, ◌<◌, ◌⊎◌, inl, inr, ⊎_elim, ℕ, zero, suc, List, [], ◌∷◌, ◌++◌, length, Option, None, Some, refl, sym, ap, ◌∙◌, subst, arith}
use Rattle.std.proofs.lemmas.List.{append_assoc, append-nil, length-append}
use Rattle.sot_lists.specs.Places.{At}
use Rattle.sot_lang.specs.Tables.{Tables}
use Rattle.sot_world.specs.HistoryEntry.{Logged, InputAt, FireAt, DecideAt, TickAt}
use Rattle.sot_eval_flat.specs.declared.flat.Flat.{Flat}
use Rattle.sot_eval_flat.specs.FlatForm.{IsFormOf}
use Rattle.sot_flight.specs.Plans.{Plan}
use Rattle.sot_turn.specs.Passes.{pass_seen, pass_added}
use Rattle.sot_board.specs.Versions.{drafts_of}
use Rattle.sot_board.proofs.Entries.{drafts_append}
use Rattle.sot_fly_worker.specs.declared.shift.Shift.{Shift}
use Rattle.sot_fly_worker.specs.Askings.{Asking}
use Rattle.std.specs.Prelude.{vec_capacity}
use Rattle.sot_fly_worker.specs.Rooms.{HasRoomFor}
use Rattle.sot_fly_worker.specs.Answers.{FitsFiring, HasAnswered, Answered}
use Rattle.sot_fly_worker.specs.Shifts.{HasItsGuest, IsReady, EachGuest, AreFirings, IsOnShift}
use Rattle.sot_fly_worker.specs.Turned.{AnswersOnce, AnswersOn, IsTurned}
use Rattle.sot_fly_worker.proofs.Histories.{fits_stay, answers_stay}

-- what stands in a list with one element more: what stood there, or the new one at its end
pub last_or_before : {A : Type 0} (xs : List A) (y : A) (k : ℕ) (x : A) → At (xs ++ y ∷ []) k x → At xs k x ⊎ ((k ≡ length xs) × (x ≡ y))
last_or_before [] y zero x at = inr (refl, cc)
last_or_before [] y (suc k) x at = absurd cc
last_or_before (z ∷ zs) y zero x at = inl at
last_or_before (z ∷ zs) y (suc k) x at = ⊎_elim (λ before. inl before) (λ last. inr (ap suc last.0, last.1)) (last_or_before zs y k x at)

module _ (p : Tables) (j : ℕ) (f : Plan) (n : ℕ) (old new : List Logged) (first : Option (List Asking)) where
  -- one asking more
  asked_once : (before after : List Asking) → HasAnswered p j f n old first before → (once : AnswersOnce p j f n old new (Some before) (Some after))
      → HasAnswered p j f n new first after
  asked_once before after was once =
      let list = once.asked.0 in
      let same : before ≡ list = (let e = once.asked.1 in cc) in
      let known = was.more in
      record {
        first = was.first;
        more = known ++ once.one ∷ [];
        before_is = was.before_is;
        after_is = once.asked.2 ∙ ap (λ l. l ++ once.one ∷ []) (sym same ∙ was.after_is) ∙ append_assoc was.first known (once.one ∷ []);
        count = length-append known (once.one ∷ []) ∙ (let a = was.count in let b = once.count in omega arith);
        fits = λ k one at.
            ⊎_elim
            (λ before. subst (λ es. FitsFiring p j f n es k one) (sym once.goes_on.1) (fits_stay p j f n old once.goes_on.0 k one (was.fits k one before)))
            (λ last. subst (λ x. FitsFiring p j f n new k x) (sym last.1) (subst (λ i. FitsFiring p j f n new i once.one) (sym (last.0 ∙ was.count)) once.fits))
            (last_or_before known once.one k one at);
      }

  pub answered_on : (before after : Option (List Asking)) → Answered p j f n old first before → AnswersOn p j f n old new before after
      → Answered p j f n new first after
  answered_on before after was (inl quiet) =
      subst (λ o. Answered p j f n new first o) (sym quiet.1)
      (subst (λ es. Answered p j f n es first before) (sym quiet.0.1) (answers_stay p j f n old quiet.0.0 first before quiet.0.2 was))
  answered_on before None was (inr once) = tt
  answered_on None (Some after) was (inr once) = absurd (let e = once.asked.1 in cc)
  answered_on (Some before) (Some after) was (inr once) = asked_once before after was once

-- the same of a guest, where there is one
pub each_answered :
    {C : Type 0} (asked : C → Option (List Asking)) (p : Tables) (j : ℕ) (f : Plan) (n : ℕ) (old new : List Logged) (began was now : Option C)
    → EachGuest (Answered p j f n old) asked began was → EachGuest (AnswersOn p j f n old new) asked was now → EachGuest (Answered p j f n new) asked began now
each_answered asked p j f n old new None None None a b = tt
each_answered asked p j f n old new (Some x) (Some y) (Some z) a b = answered_on p j f n old new (asked x) (asked y) (asked z) a b
each_answered asked p j f n old new None None (Some z) a b = absurd b
each_answered asked p j f n old new None (Some y) now a b = absurd a
each_answered asked p j f n old new (Some x) None now a b = absurd a
each_answered asked p j f n old new (Some x) (Some y) None a b = absurd b

-- there is a guest where there was one
pub still_guest :
    {C : Type 0} (R : Option (List Asking) → Option (List Asking) → Type 0) (asked : C → Option (List Asking)) (f : Plan) (n : ℕ) (was now : Option C)
    → EachGuest R asked was now → HasItsGuest f n was → HasItsGuest f n now
still_guest R asked f n None None each has = has
still_guest R asked f n (Some x) (Some y) each has = has
still_guest R asked f n None (Some y) each has = absurd each
still_guest R asked f n (Some x) None each has = absurd each

-- firings behind firings
pub firings_append : (n : ℕ) (xs ys : List Logged) → AreFirings n xs → AreFirings n ys → AreFirings n (xs ++ ys)
firings_append n [] ys one two = two
firings_append n (FireAt time k draft enabled ∷ xs) ys one two = (one.0, firings_append n xs ys one.1 two)
firings_append n (InputAt time topic value ∷ xs) ys one two = absurd one
firings_append n (DecideAt time m mode ∷ xs) ys one two = absurd one
firings_append n (TickAt time noise states ∷ xs) ys one two = absurd one

-- the form is still that of the node
pub form_along : (p : Tables) (m n : ℕ) (was now : Option Flat) → m ≡ n → now ≡ was → IsFormOf p m was → IsFormOf p n now
form_along p m n was now node same has = subst (λ k. IsFormOf p k now) node (subst (IsFormOf p m) (sym same) has)

-- one more turn of a shift that began
pub one_turn_more :
    {C : Type 0} (asked : C → Option (List Asking)) (began old new : Shift C) (was : IsOnShift asked began old)
    → IsTurned asked was.at_work.accepted was.at_work.plan old new → IsOnShift asked began new
one_turn_more asked began old new was turned =
    let a = was.at_work.accepted in
    let f = was.at_work.plan in
    record {
      at_work = record {
        accepted = a;
        plan = f;
        ground = turned.ground ∙ was.at_work.ground;
        there = subst (λ n. n < length a.program.nodes) (sym turned.node) was.at_work.there;
        guest =
            subst (λ n. HasItsGuest f n new.guest) (sym turned.node)
            (still_guest (AnswersOn a.program a.cert.jitter f old.node (pass_seen old.pass) (pass_seen new.pass)) asked f old.node old.guest new.guest
            turned.guest was.at_work.guest);
        drafts = turned.drafts ∙ ap (λ n. drafts_of n (pass_seen new.pass)) (sym turned.node);
        room = subst (λ n. HasRoomFor a.program.nodes f.horizon n (vec_capacity new.drafts)) (sym turned.node)
            (subst (HasRoomFor a.program.nodes f.horizon old.node) (sym turned.room) was.at_work.room);
        form = form_along a.program old.node new.node old.form new.form (sym turned.node) turned.form was.at_work.form;
      };
      node = turned.node ∙ was.node;
      lock = turned.lock ∙ was.lock;
      ground = turned.ground ∙ was.ground;
      own = was.own ++ turned.own;
      added = turned.added ∙ ap (λ l. l ++ turned.own) was.added ∙ append_assoc (pass_added began.pass) was.own turned.own;
      only_firings =
          subst (λ n. AreFirings n (was.own ++ turned.own)) (sym turned.node) (firings_append old.node was.own turned.own was.only_firings turned.only_firings);
      all_firings =
          turned.all_firings ∙ ap (λ l. l ++ drafts_of old.node turned.own) was.all_firings
          ∙ append_assoc began.drafts.items (drafts_of old.node was.own) (drafts_of old.node turned.own)
          ∙ ap (λ l. began.drafts.items ++ l) (sym (drafts_append old.node was.own turned.own))
          ∙ ap (λ n. began.drafts.items ++ drafts_of n (was.own ++ turned.own)) (sym turned.node);
      guest = subst (λ n. EachGuest (Answered a.program a.cert.jitter f n (pass_seen new.pass)) asked began.guest new.guest) (sym turned.node)
          (each_answered asked a.program a.cert.jitter f old.node (pass_seen old.pass) (pass_seen new.pass) began.guest old.guest new.guest was.guest
          turned.guest);
      finished = turned.finished;
    }

-- nothing is answered yet
nothing_answered : {C : Type 0} (asked : C → Option (List Asking)) (p : Tables) (j : ℕ) (f : Plan) (n : ℕ) (history : List Logged) (guest : Option C)
    → drafts_of n history ≡ [] → EachGuest (Answered p j f n history) asked guest guest
nothing_answered asked p j f n history None none = tt
nothing_answered asked p j f n history (Some x) none = go (asked x)
  where
    go : (o : Option (List Asking)) → Answered p j f n history o o
    go None = tt
    go (Some list) = record {
      first = list;
      more = [];
      before_is = refl;
      after_is = sym (append-nil list);
      count = ap length (sym none);
      fits = λ k one at. absurd cc;
    }

-- a shift that is ready is on shift from itself
pub ready_on_shift : {C : Type 0} (asked : C → Option (List Asking)) (lock : _) (shift : Shift C) → IsReady lock shift → IsOnShift asked shift shift
ready_on_shift asked lock shift ready =
    let a = ready.at_work.accepted in
    record {
      at_work = ready.at_work;
      node = refl;
      lock = refl;
      ground = refl;
      own = [];
      added = sym (append-nil (pass_added shift.pass));
      only_firings = tt;
      all_firings = sym (append-nil shift.drafts.items);
      guest =
          nothing_answered asked a.program a.cert.jitter ready.at_work.plan shift.node (pass_seen shift.pass) shift.guest
          (sym ready.at_work.drafts ∙ ready.no_drafts);
      finished = λ yes. absurd (let e = sym yes ∙ ready.unfinished in cc);
    }
