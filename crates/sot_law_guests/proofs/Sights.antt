-- What is left to fire waits for its deadline, and no longer; so what was seen is recent.
use Rattle.std.proofs.Common.{◌≡◌, ◌≢◌, ℕ, suc, ◌+◌, ◌<◌, ◌≤◌, ◌⊎◌, ◌↔◌, inl, ⊎_elim, ℤ, Bool, true, false, Option, Some, List, [], ◌∷◌, ◌++◌, length, refl}
use Rattle.std.proofs.Common.{sym, ap, ◌∙◌, subst, arith, eq-eqb}
use Rattle.std.specs.Prelude.{slice_index_or, slice_set, if◌then◌else◌}
use Rattle.std.proofs.Math.Seq.{take-append_seam, drop-append_seam}
use Rattle.std.proofs.lemmas.Bool.{cases_eq, cases_lt, both_ways}
use Rattle.std.proofs.lemmas.List.{get_or-set_other}
use Rattle.sot_lists.specs.Places.{At}
use Rattle.sot_lists.proofs.Places.{at_same}
use Rattle.sot_lang.specs.declared.tables.NodeInfo.{NodeInfo}
use Rattle.sot_lang.specs.Tables.{Tables}
use Rattle.sot_lang.specs.Readings.{reading}
use Rattle.sot_calendar.specs.Due.{IsDue, IsLastDue, IsStillDue}
use Rattle.sot_calendar.proofs.Clock.{due_gap, last_now, still_due_tick}
use Rattle.sot_world.specs.Configurations.{Configuration, is_left}
use Rattle.sot_world.specs.Steps.{Event, Input, Code, Guest, Decide, Tick, Step}
use Rattle.sot_world.specs.Outcomes.{Recorded}
use Rattle.sot_world.specs.HistoryEntry.{Logged, FireAt}
use Rattle.sot_world.proofs.Modes.{left_none}
use Rattle.sot_flight.specs.Plans.{Plan}
use Rattle.sot_board.specs.Flown.{Position, Tells, Leads, IsStart, FlownSoFar}
use Rattle.sot_board.specs.Versions.{drafts_of}
use Rattle.sot_board.proofs.Going.{time_goes}
use Rattle.sot_board.proofs.Same.{from_front}
use Rattle.sot_board.proofs.Between.{instant_keeps}
use Rattle.sot_board.proofs.Entries.{drafts_append}
use Rattle.sot_fly_worker.proofs.Histories.{same_drafts}
use Rattle.sot_law_guests.specs.Sights.{SeenAreRecent, GuestsAreAnswered}
use Rattle.sot_law_guests.proofs.Drafts.{all_given}

-- what is left once a node is taken was left before
left_before : (C D : Configuration) (m n : ℕ) → D.left ≡ slice_set C.left m false → is_left D n ≡ true → is_left C n ≡ true
left_before C D m n set left = ⊎_elim
    (λ same. absurd (both_ways (is_left D n) (ap (λ l. slice_index_or l n false) set ∙ ap (λ k. slice_index_or (slice_set C.left k false) n false) (sym same)
    ∙ left_none C.left n) left))
    (λ other. sym (ap (λ l. slice_index_or l n false) set ∙ get_or-set_other C.left m n false false other) ∙ left)
    (cases_eq n m)

-- an entry of a firing that is none of a node is of another node
other_node : (n m time : ℕ) (draft : List (Option ℤ)) (enabled : Bool) → drafts_of n (FireAt time m draft enabled ∷ []) ≡ [] → n ≡ m → ⊥
other_node n m time draft enabled none same =
    let one : draft ∷ [] ≡ [] = sym (ap (λ b. if b then draft ∷ [] else []) (eq-eqb n m same)) ∙ none in
    cc

-- the parts of a list of drafts that is empty
none_both : (xs ys : List (List (Option ℤ))) → xs ++ ys ≡ [] → (xs ≡ []) × (ys ≡ [])
none_both [] ys e = (refl, e)
none_both (x ∷ xs) ys e = absurd cc

module _ (p : Tables) (j : ℕ) (f : Plan) (n : ℕ) (node : NodeInfo) (at : At p.nodes n node) where
  -- a node that is left was due last no longer ago than the jitter
  abbrev IsInTime : Configuration → Type 0
  IsInTime C = is_left C n ≡ true → IsStillDue j node.period node.offset C.time

  stays_in_time : (C D : Configuration) → D.time ≡ C.time → (is_left D n ≡ true → is_left C n ≡ true) → IsInTime C → IsInTime D
  stays_in_time C D time before in_time left = subst (IsStillDue j node.period node.offset) (sym time) (in_time (before left))

  step_in_time : (C D : Configuration) (e : Event) → Step p j C e D → IsInTime C → IsInTime D
  step_in_time C D (Input topic value) s h = stays_in_time C D (ap (λ x. x.time) s.rest) (λ left. sym (ap (λ x. is_left x n) s.rest) ∙ left) h
  step_in_time C D (Code m) s h = stays_in_time C D s.fires.time (left_before C D m n s.fires.left) h
  step_in_time C D (Guest m draft) s h = stays_in_time C D s.fires.time (left_before C D m n s.fires.left) h
  step_in_time C D (Decide m) s h = stays_in_time C D (ap (λ x. x.time) s.rest) (λ left. sym (ap (λ x. is_left x n) s.rest) ∙ left) h
  step_in_time C D (Tick noise) s h = λ left.
      let sets = subst (λ t. (is_left D n ≡ true) ↔ ((is_left C n ≡ true) ⊎ IsDue node.period node.offset t)) s.time (s.left n node at) in
      subst (IsStillDue j node.period node.offset) (sym s.time)
      (still_due_tick j (is_left C n) (is_left D n) node.period node.offset C.time h (λ d was last. s.may.nodes n node d at was last) sets left)

  led_in_time : (es : List Logged) (P Q : Position) → Leads p j f P es Q → IsInTime P.at → IsInTime Q.at
  led_in_time [] P Q led h = subst (λ (x : Position). IsInTime x.at) led h
  led_in_time (e ∷ es) P Q (R, flies, led) h = led_in_time es R Q led (step_in_time P.at R.at flies.event flies.step h)

  start_in_time : (P : Position) → IsStart p f P → IsInTime P.at
  start_in_time P start left =
      let due = subst (IsDue node.period node.offset) (sym start.opening.time) ((start.opening.left n node at).0 left) in
      (P.at.time, last_now node.period node.offset P.at.time due, omega arith)

  -- where a flight stands, a node that is left was due last no longer ago than the jitter
  flown_in_time : (es : List Logged) (Q : Position) → FlownSoFar p j f es Q → IsInTime Q.at
  flown_in_time es Q (P, start, led) = led_in_time es P Q led (start_in_time P start)

  module _ (begins : node.offset < node.period) (short : j < node.period) (d : ℕ) where
    -- it is left since this due time, whose deadline is now or later
    record Waits (C : Configuration) : Type 0 where
      left : is_left C n ≡ true
      last : IsLastDue node.period node.offset C.time d
      in_time : C.time ≤ d + j

    still_waits : (C D : Configuration) → D.time ≡ C.time → is_left D n ≡ is_left C n → Waits C → Waits D
    still_waits C D time left w =
        record { left = left ∙ w.left; last = subst (λ t. IsLastDue node.period node.offset t d) (sym time) w.last; in_time = omega (arith, time, w.in_time) }

    -- another node fires
    other_fires : (C D : Configuration) (m : ℕ) → D.time ≡ C.time → D.left ≡ slice_set C.left m false → (n ≡ m → ⊥) → Waits C → Waits D
    other_fires C D m time set other w = still_waits C D time (ap (λ l. slice_index_or l n false) set ∙ get_or-set_other C.left m n false false other) w

    -- a tick that comes before the deadline
    tick_waits : (t : ℕ) → IsLastDue node.period node.offset t d → t ≤ d + j → d + j ≢ t → IsLastDue node.period node.offset (suc t) d × (suc t ≤ d + j)
    tick_waits t last in_time not_yet = (
      record {
        past = omega (arith, last.past);
        due = last.due;
        greatest = λ u le due. ⊎_elim
            (λ later. let gap = due_gap node.period node.offset d u begins last.due due later in absurd (omega (arith, gap, le, in_time, short, not_yet)))
            (λ no_later. no_later)
            (cases_lt d u);
      },
      omega (arith, in_time, not_yet),
    )

    step_waits : (C D : Configuration) (e : Event) (r : Recorded) (x : Logged) → Step p j C e D → Tells C e r D x → drafts_of n (x ∷ []) ≡ [] → Waits C
        → Waits D
    step_waits C D (Input topic value) r x s told none w = still_waits C D (ap (λ y. y.time) s.rest) (ap (λ y. is_left y n) s.rest) w
    step_waits C D (Code m) r x s told none w =
        other_fires C D m s.fires.time s.fires.left (other_node n m C.time _ told.1 (ap (λ y. drafts_of n (y ∷ [])) (sym told.3) ∙ none)) w
    step_waits C D (Guest m draft) r x s told none w =
        other_fires C D m s.fires.time s.fires.left (other_node n m C.time _ told.1 (ap (λ y. drafts_of n (y ∷ [])) (sym told.3) ∙ none)) w
    step_waits C D (Decide m) r x s told none w = still_waits C D (ap (λ y. y.time) s.rest) (ap (λ y. is_left y n) s.rest) w
    step_waits C D (Tick noise) r x s told none w =
        let on = tick_waits C.time w.last w.in_time (s.may.nodes n node d at w.left w.last) in
        record {
          left = (s.left n node at).1 (inl w.left);
          last = subst (λ t. IsLastDue node.period node.offset t d) (sym s.time) on.0;
          in_time = omega (arith, s.time, on.1);
        }

    led_waits : (es : List Logged) (P Q : Position) → Leads p j f P es Q → drafts_of n es ≡ [] → Waits P.at → Waits Q.at
    led_waits [] P Q led none w = subst (λ (x : Position). Waits x.at) led w
    led_waits (e ∷ es) P Q (R, flies, led) none w =
        let parts = none_both (drafts_of n (e ∷ [])) (drafts_of n es) (sym (drafts_append n (e ∷ []) es) ∙ none) in
        led_waits es R Q led parts.1 (step_waits P.at R.at flies.event flies.recorded e flies.step flies.tells parts.0 w)

module _ (p : Tables) (j : ℕ) (f : Plan) where
  time_rises : (es : List Logged) (P Q : Position) → Leads p j f P es Q → P.at.time ≤ Q.at.time
  time_rises [] P Q led = (let same = ap (λ (x : Position). x.at.time) led in omega (arith, same))
  time_rises (e ∷ es) P Q (R, flies, led) =
      let rest = time_rises es R Q led in
      ⊎_elim (λ same. omega (arith, same, rest)) (λ tick. omega (arith, tick.2, rest)) (time_goes p j P.at R.at flies.event flies.step)

  leads_begin : (es fs : List Logged) (P Q : Position) → Leads p j f P (es ++ fs) Q → (R : Position) × Leads p j f P es R
  leads_begin [] fs P Q led = (P, refl)
  leads_begin (e ∷ es) fs P Q (S, flies, led) = (let rest = leads_begin es fs S Q led in (rest.0, (S, flies, rest.1)))

  leads_on : (es fs : List Logged) (P R Q : Position) → Leads p j f P es R → Leads p j f R fs Q → Leads p j f P (es ++ fs) Q
  leads_on [] fs P R Q one two = subst (λ x. Leads p j f x fs Q) (sym one) two
  leads_on (e ∷ es) fs P R Q (S, flies, one) two = (S, flies, leads_on es fs S R Q one two)

pub seen_are_recent : SeenAreRecent
seen_are_recent p j f n node history Q k one at begins short flown fits =
    let tail = fits.between ++ FireAt fits.time n fits.draft fits.enabled ∷ fits.rest in
    let front = subst (λ es. FlownSoFar p j f es fits.position) (sym (take-append_seam fits.first tail)) fits.flown in
    let led = from_front p j f (length fits.first) (fits.first ++ tail) fits.position Q front (subst (λ es. FlownSoFar p j f es Q) fits.history_is flown) in
    let behind : Leads p j f fits.position tail Q = subst (λ es. Leads p j f fits.position es Q) (drop-append_seam fits.first tail) led in
    let till = leads_begin p j f fits.between (FireAt fits.time n fits.draft fits.enabled ∷ fits.rest) fits.position Q behind in
    let due = flown_in_time p j f n node at fits.first fits.position fits.flown fits.left in
    let waits = led_waits p j f n node at begins short due.0 fits.between fits.position till.0 till.1 fits.no_other
    (record { left = fits.left; last = due.1; in_time = due.2 }) in
    let rises = time_rises p j f fits.between fits.position till.0 till.1 in
    record {
      first = fits.first;
      between = fits.between;
      rest = fits.rest;
      time = fits.time;
      draft = fits.draft;
      enabled = fits.enabled;
      history_is = fits.history_is;
      had_fired = fits.number;
      still = ap length (same_drafts n fits.first fits.between fits.no_other) ∙ fits.number;
      seen = fits.position;
      firing = till.0;
      seen_at = fits.flown;
      fires_at = (fits.flown.0, fits.flown.1, leads_on p j f fits.first fits.between fits.flown.0 fits.position till.0 fits.flown.2 till.1);
      values_are = fits.values ∙ ap (λ x. reading x fits.position.at.scalars fits.position.at.points) (at_same p.nodes n fits.info node fits.is at);
      due = due.0;
      is_due = due.1.due;
      after_due = due.1.past;
      later = rises;
      in_time = waits.in_time;
      points = λ none. (instant_keeps p j f fits.between fits.position till.0 till.1 (omega (arith, due.1.past, rises, waits.in_time, none))).0;
    }

pub guests_answered : GuestsAreAnswered
guests_answered a f history before after (Q, flown, ended) each n i node was now crew at begins short at_before at_after =
    let answered = each n i was (Some now) crew at_before at_after in
    record {
      first = answered.first;
      more = answered.more;
      before_is = answered.before_is;
      after_is = answered.after_is;
      drafts = all_given a.program a.cert.jitter f n history was now answered;
      seen = λ k one there. seen_are_recent a.program a.cert.jitter f n node history Q k one at begins short flown (answered.fits k one there);
    }
