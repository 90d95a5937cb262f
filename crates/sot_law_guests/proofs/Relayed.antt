-- The worked flight with a guest.
use Rattle.std.proofs.Common.{◌≡◌, ℕ, zero, suc, ◌+◌, ◌≤◌, ◌⊎◌, ◌↔◌, inl, inr, ℤ, pos, true, false, Bool, Option, Some, None, List, [], ◌∷◌, ◌++◌, length, take}
use Rattle.std.proofs.Common.{drop, refl, sym, ap, ◌∙◌, subst, arith}
use Rattle.std.proofs.lemmas.Bool.{false≢true}
use Rattle.std.proofs.lemmas.Int.{ints}
use Rattle.std.specs.Prelude.{slice_get}
use Rattle.std.proofs.lemmas.List.{length-append, append-nil, append_assoc}
use Rattle.std.proofs.lemmas.Option.{none-some, same_Some}
use Rattle.std.proofs.Math.Seq.{take-append_seam, drop-append_seam}
use Rattle.std.specs.Global.{Global}
use Rattle.sot_lists.specs.Places.{At}
use Rattle.sot_lists.proofs.ShortLists.{at_one, at_two}
use Rattle.sot_box.specs.Sides.{IsIn}
use Rattle.sot_lang.specs.Tables.{Tables}
use Rattle.sot_lang.specs.Ranges.{range_of}
use Rattle.sot_lang.specs.Readings.{reading}
use Rattle.sot_calendar.specs.Due.{IsDue}
use Rattle.sot_world.specs.Configurations.{Configuration, IsOpening, is_left}
use Rattle.sot_world.specs.Steps.{Step, Input, Guest, Tick}
use Rattle.sot_world.specs.Outcomes.{InputTaken, NodeFired, PlantsTicked}
use Rattle.sot_world.specs.HistoryEntry.{Logged, InputAt, FireAt, TickAt}
use Rattle.sot_world.specs.Examples.{relaying, e_topic}
use Rattle.sot_flight.specs.Plans as plan
use Rattle.sot_board.specs.Flown.{Position, Flies, IsStart, Leads, FlownSoFar, FlownBy}
use Rattle.sot_board.specs.Versions.{drafts_of}
use Rattle.sot_board.proofs.Same.{from_front}
use Rattle.sot_fly_worker.specs.Askings.{Asking, asking}
use Rattle.sot_fly_worker.specs.Answers.{FitsFiring, HasAnswered, Answered}
use Rattle.sot_workers.specs.declared.lists.NodeList.{NodeList}
use Rattle.sot_workers.specs.Lists.{AreLists}
use Rattle.sot_law_guests.specs.Examples.{asked_copy, asked_relay, asked_flight, asked_history, comes, drafted, FitsByHand, FitAsStated, SeenByHand}
use Rattle.sot_law_guests.specs.Examples.{SeenAsStated, AnswersByHand, AnswerAsStated, EachAsStated, UnnamedAsStated, two_nodes, ListsByHand, ListsAsStated}
use Rattle.sot_law_guests.specs.Laws.{draft_given}
use Rattle.sot_law_guests.specs.Sights.{WereSeenInTime}
use Rattle.sot_law_guests.proofs.Drafts.{at_seam, fits_give_drafts}
use Rattle.sot_law_guests.proofs.Sights.{seen_are_recent}

-- the relay at a time, with its node left or not, and its two numbers
abbrev relay_at : ℕ → Bool → ℤ → ℤ → Configuration
relay_at time left e m = record (relaying e m) { time = time; left = left ∷ [] }

-- where the flight stands after each entry
abbrev at_start : Position
at_start = record { at = relay_at 0 true (pos 0) (pos 0); inputs = asked_flight.inputs; fired = 0 ∷ [] }

abbrev once_fired : Position
once_fired = record { at = relay_at 0 false (pos 0) (pos 1); inputs = asked_flight.inputs; fired = 1 ∷ [] }

abbrev with_five : Position
with_five = record { at = relay_at 0 false (pos 5) (pos 1); inputs = comes 0 (pos 7) ∷ comes 1 (pos 8) ∷ []; fired = 1 ∷ [] }

abbrev with_seven : Position
with_seven = record { at = relay_at 0 false (pos 7) (pos 1); inputs = comes 1 (pos 8) ∷ []; fired = 1 ∷ [] }

abbrev once_ticked : Position
once_ticked = record { at = relay_at 1 true (pos 7) (pos 1); inputs = comes 1 (pos 8) ∷ []; fired = 1 ∷ [] }

abbrev with_eight : Position
with_eight = record { at = relay_at 1 true (pos 8) (pos 1); inputs = []; fired = 1 ∷ [] }

abbrev at_end : Position
at_end = record { at = relay_at 1 false (pos 8) (pos 2); inputs = []; fired = 2 ∷ [] }

abbrev place : ℕ → Position
place zero = at_start
place (suc zero) = once_fired
place (suc (suc zero)) = with_five
place (suc (suc (suc zero))) = with_seven
place (suc (suc (suc (suc zero)))) = once_ticked
place (suc (suc (suc (suc (suc zero))))) = with_eight
place (suc (suc (suc (suc (suc (suc k)))))) = at_end

-- a history leads to one position
one_position : (p : Tables) (j : ℕ) (f : plan.Plan) (es : List Logged) (P Q : Position) → FlownSoFar p j f es P → FlownSoFar p j f es Q → P ≡ Q
one_position p j f es P Q one two =
    let front = subst (λ l. FlownSoFar p j f l P) (sym (take-append_seam es [])) one in
    let all = subst (λ l. FlownSoFar p j f l Q) (sym (append-nil es)) two in
    subst (λ l. Leads p j f P l Q) (drop-append_seam es []) (from_front p j f (length es) (es ++ []) P Q front all)

two_of : {A : Type 0} (xs : List A) → length xs ≡ 2 → (x : A) × (y : A) × (xs ≡ x ∷ y ∷ [])
two_of [] size = absurd (omega (arith, size))
two_of (x ∷ []) size = absurd (omega (arith, size))
two_of (x ∷ y ∷ []) size = (x, y, refl)
two_of (x ∷ y ∷ z ∷ zs) size = absurd (omega (arith, size))

-- the flight names one guest, at its one node
one_guest : (R : ℕ → ℕ → Type 0) → R 0 1 → (n i : ℕ) → At asked_flight.crews n (plan.Guest i) → R n i
one_guest R holds zero i at = (let e : ◌≡◌ {A = ℕ} 1 i = cc in subst (R 0) e holds)
one_guest R holds (suc n) i at = absurd (none-some (plan.Guest i) at)

no_time : ◌≡◌ {A = ℕ} 1 0 → ⊥
no_time e = omega (arith, e)

module _ (g : Global) where
  opens : IsOpening (asked_relay g) [] (relay_at 0 true (pos 0) (pos 0))
  opens = record {
    time = refl;
    left =
        at_one (λ n node. (is_left (relay_at 0 true (pos 0) (pos 0)) n ≡ true) ↔ IsDue node.period node.offset 0) (asked_copy g)
        ((λ e. (omega arith, refl)), (λ d. refl));
    left_dm = λ m a at. absurd (none-some a at);
    modes = refl;
    scalars = refl;
    locals = refl;
    points = refl;
    sizes = record { left = refl; left_dm = refl; modes = refl; scalars = refl; locals = refl; points = refl };
    widths = λ k plant at. absurd (none-some plant at);
  }

  starts : IsStart (asked_relay g) asked_flight at_start
  starts = record { opening = opens; inputs = refl; fired = refl }

  -- the guest's node fires, and its number is published
  fires_1 : Step (asked_relay g) 0 (relay_at 0 true (pos 0) (pos 0)) (Guest 0 (Some (pos 1) ∷ [])) (relay_at 0 false (pos 0) (pos 1))
  fires_1 =
      record {
        node = asked_copy g;
        is = refl;
        external = refl;
        slots = refl;
        fires = record { was_left = refl; time = refl; left = refl; left_dm = refl; modes = refl; points = refl; locals_set = refl; scalars = refl };
      }

  fires_2 : Step (asked_relay g) 0 (relay_at 1 true (pos 8) (pos 1)) (Guest 0 (Some (pos 2) ∷ [])) (relay_at 1 false (pos 8) (pos 2))
  fires_2 =
      record {
        node = asked_copy g;
        is = refl;
        external = refl;
        slots = refl;
        fires = record { was_left = refl; time = refl; left = refl; left_dm = refl; modes = refl; points = refl; locals_set = refl; scalars = refl };
      }

  -- a number of the environment comes, which is a digit
  input : (time : ℕ) (left : Bool) (e m z : ℤ) → IsIn (range_of (asked_relay g).scalars 0) z
      → Step (asked_relay g) 0 (relay_at time left e m) (Input 0 (z ∷ [])) (relay_at time left z m)
  input time left e m z inside = record {
    info = e_topic g;
    is = refl;
    outside = refl;
    size = refl;
    typed = at_one (λ i x. IsIn (range_of (asked_relay g).scalars (0 + i)) x) z inside;
    scalars = refl;
    rest = refl;
  }

  ticks : Step (asked_relay g) 0 (relay_at 0 false (pos 7) (pos 1)) (Tick []) (relay_at 1 true (pos 7) (pos 1))
  ticks = record {
    may = record {
      nodes = λ n node d at is. absurd (at_one (λ k node. is_left (relay_at 0 false (pos 7) (pos 1)) k ≡ true → ⊥) (asked_copy g) false≢true n node at is);
      modules = λ m a d at. absurd (none-some a at);
    };
    each = refl;
    bounded = λ k plant at. absurd (none-some plant at);
    moves = λ k plant at. absurd (none-some plant at);
    time = refl;
    left =
        at_one (λ n node. (is_left (relay_at 1 true (pos 7) (pos 1)) n ≡ true)
        ↔ ((is_left (relay_at 0 false (pos 7) (pos 1)) n ≡ true) ⊎ IsDue node.period node.offset 1)) (asked_copy g)
        ((λ e. inr (omega arith, refl)), (λ o. refl));
    left_dm = λ m a at. absurd (none-some a at);
    sizes = record { left = refl; left_dm = refl; modes = refl; scalars = refl; locals = refl; points = refl };
    rest = refl;
  }

  flies_first : Flies (asked_relay g) 0 asked_flight at_start (FireAt 0 0 (drafted (pos 1)) true) once_fired
  flies_first =
      record {
        event = Guest 0 (Some (pos 1) ∷ []);
        stated = (asked_copy g, _, refl, refl, tt);
        step = fires_1;
        recorded = NodeFired (Some (pos 1) ∷ []) true;
        records = refl;
        tells = (Some (pos 1) ∷ [], true, refl, refl);
        inputs = refl;
        fired = refl;
      }

  flies_five : Flies (asked_relay g) 0 asked_flight once_fired (InputAt 0 0 (pos 5 ∷ [])) with_five
  flies_five =
      record {
        event = Input 0 (pos 5 ∷ []);
        stated = (comes 0 (pos 7) ∷ comes 1 (pos 8) ∷ [], refl);
        step =
            input 0 false (pos 0) (pos 1) (pos 5) (omega (arith, ints), omega (arith, ints));
        recorded =
            InputTaken;
        records = refl;
        tells = refl;
        inputs = refl;
        fired = refl;
      }

  flies_seven : Flies (asked_relay g) 0 asked_flight with_five (InputAt 0 0 (pos 7 ∷ [])) with_seven
  flies_seven =
      record {
        event = Input 0 (pos 7 ∷ []);
        stated = (comes 1 (pos 8) ∷ [], refl);
        step =
            input 0 false (pos 5) (pos 1) (pos 7) (omega (arith, ints), omega (arith, ints));
        recorded =
            InputTaken;
        records = refl;
        tells = refl;
        inputs = refl;
        fired = refl;
      }

  flies_tick : Flies (asked_relay g) 0 asked_flight with_seven (TickAt 0 [] []) once_ticked
  flies_tick =
      record {
        event = Tick [];
        stated = (omega arith, at_one (λ i x. x.at ≡ 0 → ⊥) (comes 1 (pos 8)) no_time, refl);
        step = ticks;
        recorded = PlantsTicked;
        records = refl;
        tells = refl;
        inputs = refl;
        fired = refl;
      }

  flies_eight : Flies (asked_relay g) 0 asked_flight once_ticked (InputAt 1 0 (pos 8 ∷ [])) with_eight
  flies_eight =
      record {
        event = Input 0 (pos 8 ∷ []);
        stated = ([], refl);
        step = input 1 true (pos 7) (pos 1) (pos 8) (omega (arith, ints), omega (arith, ints));
        recorded = InputTaken;
        records = refl;
        tells = refl;
        inputs = refl;
        fired = refl;
      }

  flies_last : Flies (asked_relay g) 0 asked_flight with_eight (FireAt 1 0 (drafted (pos 2)) true) at_end
  flies_last =
      record {
        event = Guest 0 (Some (pos 2) ∷ []);
        stated = (asked_copy g, _, refl, refl, tt);
        step = fires_2;
        recorded = NodeFired (Some (pos 2) ∷ []) true;
        records = refl;
        tells = (Some (pos 2) ∷ [], true, refl, refl);
        inputs = refl;
        fired = refl;
      }

  -- the first so many entries, for each count, lead to the place
  flown_to : (i : ℕ) → i ≤ 6 → FlownSoFar (asked_relay g) 0 asked_flight (take i asked_history) (place i)
  flown_to zero le = (at_start, starts, refl)
  flown_to (suc zero) le = (at_start, starts, (once_fired, flies_first, refl))
  flown_to (suc (suc zero)) le = (at_start, starts, (once_fired, flies_first, (with_five, flies_five, refl)))
  flown_to (suc (suc (suc zero))) le = (at_start, starts, (once_fired, flies_first, (with_five, flies_five, (with_seven, flies_seven, refl))))
  flown_to (suc (suc (suc (suc zero)))) le =
      (at_start, starts, (once_fired, flies_first, (with_five, flies_five, (with_seven, flies_seven, (once_ticked, flies_tick, refl)))))
  flown_to (suc (suc (suc (suc (suc zero))))) le = (
    at_start,
    starts,
    (
      once_fired,
      flies_first,
      (
        with_five,
        flies_five,
        (with_seven, flies_seven, (once_ticked, flies_tick, (with_eight, flies_eight, refl))),
      ),
    ),
  )
  flown_to (suc (suc (suc (suc (suc (suc zero)))))) le = (
    at_start,
    starts,
    (
      once_fired,
      flies_first,
      (
        with_five,
        flies_five,
        (with_seven, flies_seven, (once_ticked, flies_tick, (with_eight, flies_eight, (at_end, flies_last, refl)))),
      ),
    ),
  )
  flown_to (suc (suc (suc (suc (suc (suc (suc k))))))) le = absurd (omega (arith, le))

  pub flown : FlownBy (asked_relay g) 0 asked_flight asked_history
  flown = (
    at_end,
    (
      at_start,
      starts,
      (
        once_fired,
        flies_first,
        (
          with_five,
          flies_five,
          (with_seven, flies_seven, (once_ticked, flies_tick, (with_eight, flies_eight, (at_end, flies_last, refl)))),
        ),
      ),
    ),
    record {
      time = refl;
      inputs = refl;
      nothing = record {
        nodes = at_one (λ n node. is_left (relay_at 1 false (pos 8) (pos 2)) n ≡ false) (asked_copy g) refl;
        modules = λ m a at. absurd (none-some a at);
      };
    },
  )

  -- an asking that fits saw the numbers of such a place where the node is left, and gives the draft of the firing
  by_place : (i : ℕ) → i ≤ 6 → (k : ℕ) (one : Asking) → is_left (place i).at 0 ≡ true → length (drafts_of 0 (take i asked_history)) ≡ k
      → one.values ≡ reading (asked_copy g) (place i).at.scalars (place i).at.points
      → At (drafts_of 0 asked_history) k (draft_given (asked_relay g) 0 one) → FitsByHand k one
  by_place zero le k one left count values gives =
      subst (λ c. FitsByHand c one) count (
        values,
        sym (same_Some (drafted (pos 1)) _
            (subst (λ c. At (drafts_of 0 asked_history) c (draft_given (asked_relay g) 0 one)) (sym count) gives)),
      )
  by_place (suc zero) le k one left count values gives = absurd (false≢true left)
  by_place (suc (suc zero)) le k one left count values gives = absurd (false≢true left)
  by_place (suc (suc (suc zero))) le k one left count values gives = absurd (false≢true left)
  by_place (suc (suc (suc (suc zero)))) le k one left count values gives =
      subst (λ c. FitsByHand c one) count (inl (
        values,
        sym (same_Some (drafted (pos 2)) _
            (subst (λ c. At (drafts_of 0 asked_history) c (draft_given (asked_relay g) 0 one)) (sym count) gives)),
      ))
  by_place (suc (suc (suc (suc (suc zero))))) le k one left count values gives =
      subst (λ c. FitsByHand c one) count (inr (
        values,
        sym (same_Some (drafted (pos 2)) _
            (subst (λ c. At (drafts_of 0 asked_history) c (draft_given (asked_relay g) 0 one)) (sym count) gives)),
      ))
  by_place (suc (suc (suc (suc (suc (suc zero)))))) le k one left count values gives = absurd (false≢true left)
  by_place (suc (suc (suc (suc (suc (suc (suc i))))))) le k one left count values gives = absurd (omega (arith, le))

  -- entries at the beginning of the history, and the one position that they lead to
  front_is : (es tail : List Logged) → asked_history ≡ es ++ tail → take (length es) asked_history ≡ es
  front_is es tail is = ap (take (length es)) is ∙ take-append_seam es tail

  few_entries : (es tail : List Logged) → asked_history ≡ es ++ tail → length es + length tail ≡ 6
  few_entries es tail is = sym (length-append es tail) ∙ sym (ap length is)

  stands_at : (es tail : List Logged) (P : Position) → asked_history ≡ es ++ tail → FlownSoFar (asked_relay g) 0 asked_flight es P → place (length es) ≡ P
  stands_at es tail P is there =
      let le : length es ≤ 6 = omega (arith, few_entries es tail is) in
      let placed = subst (λ l. FlownSoFar (asked_relay g) 0 asked_flight l (place (length es))) (front_is es tail is) (flown_to (length es) le) in
      one_position (asked_relay g) 0 asked_flight es (place (length es)) P placed there

  -- what the node reads where they lead
  reads_at : (es tail : List Logged) (P : Position) → asked_history ≡ es ++ tail → FlownSoFar (asked_relay g) 0 asked_flight es P
      → reading (asked_copy g) P.at.scalars P.at.points ≡ reading (asked_copy g) (place (length es)).at.scalars (place (length es)).at.points
  reads_at es tail P is there = ap (λ (x : Position). reading (asked_copy g) x.at.scalars x.at.points) (sym (stands_at es tail P is there))

  fits_only : (k : ℕ) (one : Asking) → FitsFiring (asked_relay g) 0 asked_flight 0 asked_history k one → FitsByHand k one
  fits_only k one fits =
      let tail = fits.between ++ FireAt fits.time 0 fits.draft fits.enabled ∷ fits.rest in
      let info = same_Some (asked_copy g) fits.info fits.is in
      by_place (length fits.first) (omega (arith, few_entries fits.first tail fits.history_is)) k one
      (ap (λ (P : Position). is_left P.at 0) (stands_at fits.first tail fits.position fits.history_is fits.flown) ∙ fits.left)
      (ap (λ es. length (drafts_of 0 es)) (front_is fits.first tail fits.history_is) ∙ fits.number)
      (fits.values ∙ ap (λ x. reading x fits.position.at.scalars fits.position.at.points) (sym info)
      ∙ reads_at fits.first tail fits.position fits.history_is fits.flown)
      (fits_give_drafts (asked_relay g) 0 asked_flight 0 asked_history k one fits)

  fits_so : (k : ℕ) (one : Asking) → FitsByHand k one → FitsFiring (asked_relay g) 0 asked_flight 0 asked_history k one
  fits_so zero one (values, draft) = record {
    first = [];
    between = [];
    rest = drop 1 asked_history;
    time = 0;
    draft = drafted (pos 1);
    enabled = true;
    history_is = refl;
    number = refl;
    no_other = refl;
    position = at_start;
    flown = flown_to 0 (omega arith);
    left = refl;
    info = asked_copy g;
    is = refl;
    values = values;
    draft_is = sym draft;
  }
  fits_so (suc zero) one (inl saw) = record {
    first = take 4 asked_history;
    between = InputAt 1 0 (pos 8 ∷ []) ∷ [];
    rest = [];
    time = 1;
    draft = drafted (pos 2);
    enabled = true;
    history_is = refl;
    number = refl;
    no_other = refl;
    position = once_ticked;
    flown = flown_to 4 (omega arith);
    left = refl;
    info = asked_copy g;
    is = refl;
    values = saw.0;
    draft_is = sym saw.1;
  }
  fits_so (suc zero) one (inr saw) = record {
    first = take 5 asked_history;
    between = [];
    rest = [];
    time = 1;
    draft = drafted (pos 2);
    enabled = true;
    history_is = refl;
    number = refl;
    no_other = refl;
    position = with_eight;
    flown = flown_to 5 (omega arith);
    left = refl;
    info = asked_copy g;
    is = refl;
    values = saw.0;
    draft_is = sym saw.1;
  }
  fits_so (suc (suc k)) one none = absurd none

  pub fit_as_stated : FitAsStated g
  fit_as_stated k one = (fits_only k one, fits_so k one)

  recent : (k : ℕ) (one : Asking) → FitsFiring (asked_relay g) 0 asked_flight 0 asked_history k one
      → WereSeenInTime (asked_relay g) 0 asked_flight 0 (asked_copy g) asked_history k one.values
  recent k one fits =
      seen_are_recent (asked_relay g) 0 asked_flight 0 (asked_copy g) asked_history at_end k one refl (omega arith) (omega arith) (flown_to 6 (omega arith))
      fits

  -- a firing after so many entries, and numbers that were seen after no more of them and no earlier
  by_sight : (i m : ℕ) → i ≤ m → m ≤ 5 → (time : ℕ) (draft : List (Option ℤ)) (enabled : Bool) → At asked_history m (FireAt time 0 draft enabled)
      → (k : ℕ) (values : List ℤ)
      → length (drafts_of 0 (take i asked_history)) ≡ k → length (drafts_of 0 (take m asked_history)) ≡ k
      → values ≡ reading (asked_copy g) (place i).at.scalars (place i).at.points
      → (place m).at.time ≤ (place i).at.time → SeenByHand k values
  by_sight zero zero le few time draft enabled fires k values had still seen recent = subst (λ c. SeenByHand c values) had seen
  by_sight (suc i) zero le few time draft enabled fires k values had still seen recent = absurd (omega (arith, le))
  by_sight i (suc zero) le few time draft enabled fires k values had still seen recent = absurd cc
  by_sight i (suc (suc zero)) le few time draft enabled fires k values had still seen recent = absurd cc
  by_sight i (suc (suc (suc zero))) le few time draft enabled fires k values had still seen recent = absurd cc
  by_sight i (suc (suc (suc (suc zero)))) le few time draft enabled fires k values had still seen recent = absurd cc
  by_sight zero (suc (suc (suc (suc (suc zero))))) le few time draft enabled fires k values had still seen recent = absurd (omega (arith, had, still))
  by_sight (suc zero) (suc (suc (suc (suc (suc zero))))) le few time draft enabled fires k values had still seen recent = absurd (omega (arith, recent))
  by_sight (suc (suc zero)) (suc (suc (suc (suc (suc zero))))) le few time draft enabled fires k values had still seen recent = absurd (omega (arith, recent))
  by_sight (suc (suc (suc zero))) (suc (suc (suc (suc (suc zero))))) le few time draft enabled fires k values had still seen recent =
      absurd (omega (arith, recent))
  by_sight (suc (suc (suc (suc zero)))) (suc (suc (suc (suc (suc zero))))) le few time draft enabled fires k values had still seen recent =
      subst (λ c. SeenByHand c values) had (inl seen)
  by_sight (suc (suc (suc (suc (suc zero))))) (suc (suc (suc (suc (suc zero))))) le few time draft enabled fires k values had still seen recent =
      subst (λ c. SeenByHand c values) had (inr seen)
  by_sight (suc (suc (suc (suc (suc (suc i)))))) (suc (suc (suc (suc (suc zero))))) le few time draft enabled fires k values had still seen recent =
      absurd (omega (arith, le))
  by_sight i (suc (suc (suc (suc (suc (suc m)))))) le few time draft enabled fires k values had still seen recent = absurd (omega (arith, few))

  seen_only : (k : ℕ) (values : List ℤ) → WereSeenInTime (asked_relay g) 0 asked_flight 0 (asked_copy g) asked_history k values → SeenByHand k values
  seen_only k values were =
      let tail = FireAt were.time 0 were.draft were.enabled ∷ were.rest in
      let before = were.first ++ were.between in
      let split : asked_history ≡ before ++ tail = were.history_is ∙ sym (append_assoc were.first were.between tail) in
      let now = ap (λ (P : Position). P.at.time) (stands_at before tail were.firing split were.fires_at) in
      let then = ap (λ (P : Position). P.at.time) (stands_at were.first (were.between ++ tail) were.seen were.history_is were.seen_at) in
      by_sight (length were.first) (length before) (omega (arith, length-append were.first were.between)) (omega (arith, few_entries before tail split))
      were.time were.draft were.enabled
      (ap (λ es. slice_get es (length before)) split ∙ at_seam before were.rest _)
      k values
      (ap (λ es. length (drafts_of 0 es)) (front_is were.first (were.between ++ tail) were.history_is) ∙ were.had_fired)
      (ap (λ es. length (drafts_of 0 es)) (front_is before tail split) ∙ were.still)
      (were.values_are ∙ reads_at were.first (were.between ++ tail) were.seen were.history_is were.seen_at)
      (omega (arith, now, then, were.after_due, were.in_time))

  seen_so : (k : ℕ) (values : List ℤ) → SeenByHand k values → WereSeenInTime (asked_relay g) 0 asked_flight 0 (asked_copy g) asked_history k values
  seen_so zero values saw = recent 0 (asking values (drafted (pos 1))) (fits_so 0 (asking values (drafted (pos 1))) (saw, refl))
  seen_so (suc zero) values (inl saw) = recent 1 (asking values (drafted (pos 2))) (fits_so 1 (asking values (drafted (pos 2))) (inl (saw, refl)))
  seen_so (suc zero) values (inr saw) = recent 1 (asking values (drafted (pos 2))) (fits_so 1 (asking values (drafted (pos 2))) (inr (saw, refl)))
  seen_so (suc (suc k)) values none = absurd none

  pub seen_as_stated : SeenAsStated g
  seen_as_stated k values = (seen_only k values, seen_so k values)

  answers_only : (before : Option (List Asking)) (after : List Asking) → HasAnswered (asked_relay g) 0 asked_flight 0 asked_history before after
      → AnswersByHand before after
  answers_only before after answered =
      let two = two_of answered.more answered.count in (
        answered.first,
        two.0,
        two.1,
        answered.before_is,
        answered.after_is ∙ ap (λ more. answered.first ++ more) two.2,
        fits_only 0 two.0 (answered.fits 0 two.0 (ap (λ more. slice_get more 0) two.2)),
        fits_only 1 two.1 (answered.fits 1 two.1 (ap (λ more. slice_get more 1) two.2)),
      )

  answers_so : (before : Option (List Asking)) (after : List Asking) → AnswersByHand before after
      → HasAnswered (asked_relay g) 0 asked_flight 0 asked_history before after
  answers_so before after (first, one, other, before_is, after_is, fits, fits_too) = record {
    first = first;
    more = one ∷ other ∷ [];
    before_is = before_is;
    after_is = after_is;
    count = refl;
    fits = at_two (λ k asked. FitsFiring (asked_relay g) 0 asked_flight 0 asked_history k asked) one other (fits_so 0 one fits) (fits_so 1 other fits_too);
  }

  pub answer_as_stated : AnswerAsStated g
  answer_as_stated before after = (answers_only before after, answers_so before after)

  pub each_as_stated : EachAsStated g
  each_as_stated = (
    (λ other was now after. (
      (λ each. answers_only was after (each 0 1 was (Some after) refl refl refl)),
      (λ answers n i x y crew at_x at_y. one_guest
          (λ m k. At (other ∷ was ∷ []) k x → At (now ∷ Some after ∷ []) k y → Answered (asked_relay g) 0 asked_flight m asked_history x y)
          (λ x_is y_is. subst (λ z. Answered (asked_relay g) 0 asked_flight 0 asked_history x z) (same_Some (Some after) y y_is)
          (subst (λ z. HasAnswered (asked_relay g) 0 asked_flight 0 asked_history z after) (same_Some was x x_is) (answers_so was after answers)))
          n i crew at_x at_y),
    )),
    (λ other was now n i x y crew at_x at_y. one_guest
        (λ m k. At (now ∷ None ∷ []) k y → Answered (asked_relay g) 0 asked_flight m asked_history x y)
        (λ y_is. subst (λ z. Answered (asked_relay g) 0 asked_flight 0 asked_history x z) (same_Some None y y_is) tt)
        n i crew at_y),
  )

first_unnamed : (n : ℕ) → At asked_flight.crews n (plan.Guest 0) → ⊥
first_unnamed zero at = (let e : ◌≡◌ {A = ℕ} 1 0 = cc in omega (arith, e))
first_unnamed (suc n) at = none-some (plan.Guest 0) at

unnamed_same : (other was new now : ℕ) → new ≡ other → (i x y : ℕ) → ((n : ℕ) → At asked_flight.crews n (plan.Guest i) → ⊥) → At (other ∷ was ∷ []) i x
    → At (new ∷ now ∷ []) i y → y ≡ x
unnamed_same other was new now same zero x y unnamed at_x at_y = sym (same_Some new y at_y) ∙ same ∙ same_Some other x at_x
unnamed_same other was new now same (suc zero) x y unnamed at_x at_y = absurd (unnamed 0 refl)
unnamed_same other was new now same (suc (suc i)) x y unnamed at_x at_y = absurd (none-some x at_x)

pub unnamed_as_stated : UnnamedAsStated
unnamed_as_stated other was new now = ((λ stays. stays 0 other new first_unnamed refl refl), unnamed_same other was new now)

lists_only : (lists : List NodeList) → AreLists 2 lists two_nodes → ListsByHand lists
lists_only lists are =
    let two = two_of lists are.nodes.each in
    let zeroth : At lists 0 two.0 = ap (λ l. slice_get l 0) two.2 in
    let first : At lists 1 two.1 = ap (λ l. slice_get l 1) two.2 in
    (two.0, two.1, two.2, are.nodes.nodes 0 two.0 zeroth, are.drafts 0 two.0 zeroth, are.nodes.nodes 1 two.1 first, are.drafts 1 two.1 first)

lists_so : (lists : List NodeList) → ListsByHand lists → AreLists 2 lists two_nodes
lists_so lists (zeroth, first, is, node, drafts, other, others) = subst (λ l. AreLists 2 l two_nodes) (sym is) (record {
  nodes = record { each = refl; nodes = at_two (λ n list. list.node ≡ n) zeroth first node other };
  drafts = at_two (λ n list. list.drafts.items ≡ drafts_of n two_nodes) zeroth first drafts others;
})

pub lists_as_stated : ListsAsStated
lists_as_stated lists = (lists_only lists, lists_so lists)
