-- A board stands after an event as it stood before.
use Rattle.std.proofs.Common.{◌≡◌, ℕ, zero, suc, ◌+◌, ◌≤◌, ◌<◌, ◌⊎◌, ⊎_elim, inl, inr, Bool, true, false, ℤ, Option, List, [], ◌∷◌, ◌++◌, length, map, refl}
use Rattle.std.proofs.Common.{sym, ap, ◌∙◌, subst, arith}
use Rattle.std.specs.Prelude.{slice_index_or, slice_set, if◌then◌else◌}
use Rattle.std.proofs.lemmas.List.{length-append, length-map, length-set}
use Rattle.std.proofs.lemmas.Option.{slice_get_within, get_or_from_slice_get}
use Rattle.sot_lists.specs.Places.{At}
use Rattle.sot_lists.proofs.Places.{at_map, at_below}
use Rattle.sot_lang.specs.declared.tables.NodeInfo.{NodeInfo}
use Rattle.sot_lang.specs.declared.tables.PlantInfo.{PlantInfo}
use Rattle.sot_lang.specs.Tables.{Tables}
use Rattle.sot_lang.specs.Ticks.{joined}
use Rattle.sot_lang.specs.Ranges.{bounds}
use Rattle.sot_box.specs.Sides.{Side}
use Rattle.sot_box.proofs.Ranges.{within_length}
use Rattle.sot_calendar.specs.Due.{IsDue}
use Rattle.sot_world.specs.Configurations.{Configuration, IsSized, is_left, is_left_dm}
use Rattle.sot_world.specs.Steps.{Event, Input, Code, Guest, Decide, Tick, Step, Fires}
use Rattle.sot_world.specs.HistoryEntry.{Logged}
use Rattle.sot_world.specs.Histories.{numbers_in}
use Rattle.sot_world.specs.Outcomes.{Recorded}
use Rattle.sot_world.specs.Changes.{ArePoints}
use Rattle.sot_world.specs.State.{IsKept}
use Rattle.sot_world.proofs.Stepping.{step_kept, are_points}
use Rattle.sot_flight.specs.Plans.{StatedInput, Plan}
use Rattle.sot_flight.specs.Counts.{due_once, tick_numbers, input_numbers}
use Rattle.sot_board.specs.Flown.{Position, fired_of, IsStated, Tells, Flies, inputs_after, fired_after}
use Rattle.sot_board.specs.Versions.{drafts_of, writes_topic}
use Rattle.sot_board.specs.Room.{to_come, node_times, module_times, events_to_come, numbers_to_come}
use Rattle.sot_board.specs.Standing.{Standing, HasStanding, Counted}
use Rattle.sot_board.proofs.RoomLemmas.{once_due, after_tick, after_one}
use Rattle.sot_board.proofs.Entries.{flown_more, version_more, drafts_append, count_firing}

-- an event keeps the time, or is a tick
pub time_goes : (p : Tables) (j : ℕ) (C D : Configuration) (e : Event) → Step p j C e D
    → (D.time ≡ C.time) ⊎ ((noise : List (List ℤ)) × (e ≡ Tick noise) × (D.time ≡ suc C.time))
time_goes p j C D (Input topic value) s = inl (ap (λ c. c.time) s.rest)
time_goes p j C D (Code n) s = inl s.fires.time
time_goes p j C D (Guest n draft) s = inl s.fires.time
time_goes p j C D (Decide m) s = inl (ap (λ c. c.time) s.rest)
time_goes p j C D (Tick noise) s = inr (noise, refl, s.time)

-- the inputs stay, or the first one has come
inputs_go : (p : Tables) (f : Plan) (P : Position) (e : Event) → IsStated p f P e
    → (inputs_after e P.inputs ≡ P.inputs) ⊎ ((x : StatedInput) × (P.inputs ≡ x ∷ inputs_after e P.inputs))
inputs_go p f P (Input topic value) (rest, is) =
    inr (
      record { at = P.at.time; topic = topic; value = value },
      is
          ∙ ap (λ xs. record { at = P.at.time; topic = topic; value = value } ∷ xs) (sym (ap (inputs_after (Input topic value)) is)),
    )
inputs_go p f P (Code n) s = inl refl
inputs_go p f P (Guest n draft) s = inl refl
inputs_go p f P (Decide m) s = inl refl
inputs_go p f P (Tick noise) s = inl refl

-- what is still to come stood there before
pub still_at : (p : Tables) (f : Plan) (P : Position) (e : Event) → IsStated p f P e → (i : ℕ) (x : StatedInput) → At (inputs_after e P.inputs) i x
    → (k : ℕ) × At P.inputs k x
still_at p f P e s i x at =
    ⊎_elim
    (λ same. (i, subst (λ l. At l i x) same at))
    (λ first. (suc i, subst (λ l. At l (suc i) x) (sym first.1) at))
    (inputs_go p f P e s)

module _ (p : Tables) (j : ℕ) (f : Plan) (P : Position) (e : Event) (Q : Configuration) (stated : IsStated p f P e) (step : Step p j P.at e Q) where
  pub still_ahead : ((i : ℕ) (x : StatedInput) → At P.inputs i x → P.at.time ≤ x.at) → (i : ℕ) (x : StatedInput) → At (inputs_after e P.inputs) i x
      → Q.time ≤ x.at
  still_ahead ahead i x at =
      let k = still_at p f P e stated i x at in
      let before = ahead k.0 x k.1 in
      ⊎_elim
      (λ same. omega (arith, same, before))
      (λ (noise, is, later).
      let none = subst (IsStated p f P) is stated in
      let apart = none.1 k.0 x k.1 in
      omega (arith, later, before, apart))
      (time_goes p j P.at Q e step)

  pub still_in_time : P.at.time ≤ f.horizon → Q.time ≤ f.horizon
  still_in_time before =
      ⊎_elim
      (λ same. omega (arith, same, before))
      (λ (noise, is, later). (let below = (subst (IsStated p f P) is stated).0 in omega (arith, later, below)))
      (time_goes p j P.at Q e step)

  pub still_ordered : ((i : ℕ) (x y : StatedInput) → At P.inputs i x → At P.inputs (suc i) y → x.at ≤ y.at) → (i : ℕ) (x y : StatedInput)
      → At (inputs_after e P.inputs) i x → At (inputs_after e P.inputs) (suc i) y → x.at ≤ y.at
  still_ordered ordered i x y at_x at_y =
      ⊎_elim
      (λ same. ordered i x y (subst (λ l. At l i x) same at_x) (subst (λ l. At l (suc i) y) same at_y))
      (λ first. ordered (suc i) x y (subst (λ l. At l (suc i) x) (sym first.1) at_x) (subst (λ l. At l (suc (suc i)) y) (sym first.1) at_y))
      (inputs_go p f P e stated)

-- no draft more
none_more : (n : ℕ) (es : List Logged) (entry : Logged) → drafts_of n (entry ∷ []) ≡ [] → length (drafts_of n es) ≡ length (drafts_of n (es ++ entry ∷ []))
none_more n es entry none =
    let all = ap length (drafts_append n es (entry ∷ [])) ∙ length-append (drafts_of n es) (drafts_of n (entry ∷ [])) in
    omega (arith, all, ap length none)

-- each node's count is that of its drafts
pub still_counted :
    (p : Tables) (P : Position) (e : Event) (D : Configuration) (r : Recorded) (entry : Logged) (es : List Logged) (n : ℕ) → Tells P.at e r D entry
    → n < length P.fired → fired_of P n ≡ length (drafts_of n es)
    → slice_index_or (fired_after e P.fired) n 0 ≡ length (drafts_of n (es ++ entry ∷ []))
still_counted p P (Input topic value) D r entry es n is lt was =
    was ∙ none_more n es entry (ap (λ x. drafts_of n (x ∷ [])) is)
still_counted p P (Code k) D r entry es n told lt was =
    count_firing n k P.at.time _ _ es P.fired lt was ∙ ap (λ x. length (drafts_of n (es ++ x ∷ []))) (sym told.3)
still_counted p P (Guest k d) D r entry es n told lt was =
    count_firing n k P.at.time _ _ es P.fired lt was ∙ ap (λ x. length (drafts_of n (es ++ x ∷ []))) (sym told.3)
still_counted p P (Decide m) D r entry es n told lt was =
    was ∙ none_more n es entry (ap (λ x. drafts_of n (x ∷ [])) told.2)
still_counted p P (Tick noise) D r entry es n is lt was =
    was ∙ none_more n es entry (ap (λ x. drafts_of n (x ∷ [])) is)

pub still_each : (e : Event) (fired : List ℕ) → length (fired_after e fired) ≡ length fired
still_each (Input topic value) fired = refl
still_each (Code k) fired = length-set fired k (suc (slice_index_or fired k 0))
still_each (Guest k d) fired = length-set fired k (suc (slice_index_or fired k 0))
still_each (Decide m) fired = refl
still_each (Tick noise) fired = refl

-- how much is still to come at a configuration is told by its time and by what is left
same_come :
    (xs ys : List (ℕ × ℕ)) (k t u : ℕ) (l m l' m' : List Bool) → u ≡ t → l' ≡ l → m' ≡ m
    → to_come u k xs l' + to_come u k ys m' ≡ to_come t k xs l + to_come t k ys m
same_come xs ys k t u l m l' m' a b d =
    ap (λ z. to_come z k xs l' + to_come z k ys m') a ∙ ap (λ z. to_come t k xs z + to_come t k ys m') b ∙ ap (λ z. to_come t k xs l + to_come t k ys z) d

-- how many numbers a tick has
pub tick_size :
    (plants : List PlantInfo) (noise points : List (List ℤ)) → length noise ≡ length plants → length points ≡ length plants
    → ((k : ℕ) (plant : PlantInfo) → At plants k plant → length (slice_index_or noise k []) ≡ length plant.noise.items)
    → ((k : ℕ) (plant : PlantInfo) → At plants k plant → length (slice_index_or points k []) ≡ length plant.states.items)
    → length (joined noise) + length (joined points) ≡ tick_numbers plants
tick_size [] [] [] a b d e = refl
tick_size [] (w ∷ noise) points a b d e = cc
tick_size [] [] (s ∷ points) a b d e = cc
tick_size (x ∷ plants) [] points a b d e = cc
tick_size (x ∷ plants) (w ∷ noise) [] a b d e = cc
tick_size (x ∷ plants) (w ∷ noise) (s ∷ points) a b d e =
    let rest = tick_size plants noise points (omega (arith, a)) (omega (arith, b)) (λ k. d (suc k)) (λ k. e (suc k)) in
    omega (arith, rest, d 0 x refl, e 0 x refl, length-append w (joined noise), length-append s (joined points))

-- the things of a list by their times
times_at : {A : Type 0} (times : A → ℕ × ℕ) (xs : List A) (i : ℕ) (x : A) → At xs i x → slice_index_or (map times xs) i (0, 0) ≡ times x
times_at times xs i x at = get_or_from_slice_get (map times xs) i (times x) (0, 0) (at_map times xs i x at)

-- what is left after a tick
left_after :
    {A : Type 0} (times : A → ℕ × ℕ) (xs : List A) (t k : ℕ) (left left' : List Bool) → length left ≡ length xs → length left' ≡ length xs
    → ((i : ℕ) (x : A) → At xs i x → slice_index_or left' i false ≡ true → (slice_index_or left i false ≡ true) ⊎ IsDue (times x).0 (times x).1 (suc t))
    → to_come (suc t) k (map times xs) left' ≤ to_come t (suc k) (map times xs) left
left_after times xs t k left left' size size' each =
    after_tick t k (map times xs) left left' (size ∙ sym (length-map xs times)) (size' ∙ sym (length-map xs times)) (λ i lt on.
    let x = at_below xs i (omega (arith, lt, length-map xs times)) in
    ⊎_elim
    (λ before. inl before)
    (λ due. inr (subst (λ z. due_once z.0 z.1 (suc t) ≡ 1) (sym (times_at times xs i x.0 x.1)) (once_due (times x.0).0 (times x.0).1 (suc t) due)))
    (each i x.0 x.1 on))

node_count : (p : Tables) → length (node_times p) ≡ length p.nodes
node_count p = length-map p.nodes (λ x. let r : ℕ × ℕ = (x.period, x.offset) in r)

module_count : (p : Tables) → length (module_times p) ≡ length p.modules
module_count p = length-map p.modules (λ x. let r : ℕ × ℕ = (x.period, x.offset) in r)

-- with fewer ticks to the horizon after an event, one event less is to come, and fewer numbers
abbrev pub Lessens : Tables → ℕ → Position → ℕ → Position → Logged → Type 0
Lessens p h P k Q entry =
    (l : ℕ) × (Q.at.time + l ≡ h) × (events_to_come p l Q + 1 ≤ events_to_come p k P) × (numbers_to_come p l Q + numbers_in entry ≤ numbers_to_come p k P)

module _ (p : Tables) (j : ℕ) (f : Plan) (P Q : Position) (r : Recorded) (entry : Logged) (k : ℕ) (ends : P.at.time + k ≡ f.horizon) (sizes : IsSized p P.at)
    (points : ArePoints p Q.at.points) where
  fires_less : (n : ℕ) (node : NodeInfo) (locals : List ℤ) (draft : List (Option ℤ)) → At p.nodes n node → Fires p n node locals draft P.at Q.at
      → Q.inputs ≡ P.inputs → numbers_in entry ≡ 0 → Lessens p f.horizon P k Q entry
  fires_less n node locals draft at fires inputs none =
      let lt : n < length (node_times p) = omega (arith, slice_get_within p.nodes n node at, node_count p) in
      let one = after_one P.at.time k (node_times p) P.at.left n lt fires.was_left in
      let same = same_come (node_times p) (module_times p) k P.at.time Q.at.time (slice_set P.at.left n false) P.at.left_dm Q.at.left Q.at.left_dm fires.time
      fires.left fires.left_dm in
      (k, ap (λ t. t + k) fires.time ∙ ends, omega (arith, one, same, ap length inputs), omega (arith, none, ap input_numbers inputs))

  pub lessens : (e : Event) → IsStated p f P e → Step p j P.at e Q.at → Tells P.at e r Q.at entry → Q.inputs ≡ inputs_after e P.inputs
      → Lessens p f.horizon P k Q entry
  lessens (Input topic value) stated step told inputs =
      let same = same_come (node_times p) (module_times p) k P.at.time Q.at.time P.at.left P.at.left_dm Q.at.left Q.at.left_dm (ap (λ c. c.time) step.rest)
      (ap (λ c. c.left) step.rest) (ap (λ c. c.left_dm) step.rest) in
      let first = stated.1 in
      let now = inputs ∙ ap (inputs_after (Input topic value)) first in (
        k,
        ap (λ c. c.time + k) step.rest ∙ ends,
        omega (arith, same, ap length first, ap length now),
        omega (arith, ap input_numbers first, ap input_numbers now, ap numbers_in told),
      )
  lessens (Code n) stated step told inputs = fires_less n step.node _ _ step.is step.fires inputs (ap numbers_in told.3)
  lessens (Guest n draft) stated step told inputs = fires_less n step.node _ _ step.is step.fires inputs (ap numbers_in told.3)
  lessens (Decide m) stated step told inputs =
      let lt : m < length (module_times p) = omega (arith, slice_get_within p.modules m step.module_info step.is, module_count p) in
      let one = after_one P.at.time k (module_times p) P.at.left_dm m lt step.was_left in
      let same = same_come (node_times p) (module_times p) k P.at.time Q.at.time P.at.left (slice_set P.at.left_dm m false) Q.at.left Q.at.left_dm
      (ap (λ c. c.time) step.rest) (ap (λ c. c.left) step.rest) step.left_dm in
      (k, ap (λ c. c.time + k) step.rest ∙ ends, omega (arith, one, same, ap length inputs), omega (arith, ap numbers_in told.2, ap input_numbers inputs))
  lessens (Tick noise) stated step told inputs = tick k ends
    where
      size : length (joined noise) + length (joined Q.at.points) ≡ tick_numbers p.plants
      size = tick_size p.plants noise Q.at.points step.each points.each
          (λ i plant at. within_length (bounds plant) (slice_index_or noise i []) (step.bounded i plant at)
          ∙ length-map plant.noise.items (λ d. let s : Side = record { lo = d.lo; hi = d.hi } in s))
          points.widths

      tick : (k : ℕ) → P.at.time + k ≡ f.horizon → Lessens p f.horizon P k Q entry
      tick zero end = absurd (omega (arith, end, stated.0))
      tick (suc k) end =
          let nodes = left_after (λ x. let r : ℕ × ℕ = (x.period, x.offset) in r) p.nodes P.at.time k P.at.left Q.at.left sizes.left step.sizes.left
          (λ i x at on. subst (λ t. (is_left P.at i ≡ true) ⊎ IsDue x.period x.offset t) step.time ((step.left i x at).0 on)) in
          let modules = left_after (λ x. let r : ℕ × ℕ = (x.period, x.offset) in r) p.modules P.at.time k P.at.left_dm Q.at.left_dm sizes.left_dm
          step.sizes.left_dm
          (λ i x at on. subst (λ t. (is_left_dm P.at i ≡ true) ⊎ IsDue x.period x.offset t) step.time ((step.left_dm i x at).0 on)) in
          let same = same_come (node_times p) (module_times p) k (suc P.at.time) Q.at.time Q.at.left Q.at.left_dm Q.at.left Q.at.left_dm
          step.time refl refl in (
            k,
            omega (arith, step.time, end),
            omega (arith, nodes, modules, same, ap length inputs),
            omega (arith, size, ap numbers_in told, ap input_numbers inputs),
          )

module _ (b : Standing) (versions : List ℕ) (entries_left numbers_left : ℕ) (has : HasStanding b versions entries_left numbers_left) (entry : Logged)
    (Q : Position)
    (flies : Flies b.accepted.program b.accepted.cert.jitter b.plan b.position entry Q) where
  abbrev p : Tables
  p = b.accepted.program

  in_time' : Q.at.time ≤ b.plan.horizon
  in_time' = still_in_time p b.accepted.cert.jitter b.plan b.position flies.event Q.at flies.stated flies.step has.standing.in_time

  kept' : IsKept b.accepted Q.at
  kept' = step_kept b.accepted b.position.at has.standing.kept Q.at flies.event flies.step (omega (arith, in_time', has.standing.fits.horizon))

  less : Lessens p b.plan.horizon b.position has.room.ticks Q entry
  less =
      lessens p b.accepted.cert.jitter b.plan b.position Q flies.recorded entry has.room.ticks has.room.horizon_is has.standing.kept.holds.sizes
      (are_points b.accepted Q.at kept') flies.event flies.stated flies.step flies.tells flies.inputs

  -- each plant has a point of its width
  pub points_after : ArePoints b.accepted.program Q.at.points
  points_after = are_points b.accepted Q.at kept'

  -- there is room for the entry
  pub room_for : 0 < entries_left
  room_for = omega (arith, less.2, has.room.events)

  pub room_for_numbers : numbers_in entry ≤ numbers_left
  room_for_numbers = omega (arith, less.3, has.room.all_numbers)

  -- .. and the board stands after it
  pub stands_after :
      (versions' : List ℕ) (entries_left' numbers_left' : ℕ) → Counted b.accepted.program entry versions versions' → entries_left' + 1 ≡ entries_left
      → numbers_left' + numbers_in entry ≡ numbers_left
      → HasStanding (record { accepted = b.accepted; plan = b.plan; entries = b.entries ++ entry ∷ []; position = Q }) versions' entries_left' numbers_left'
  stands_after versions' entries_left' numbers_left' counted e n = record {
    standing = record {
      guests = has.standing.guests;
      fits = has.standing.fits;
      kept = kept';
      flown = flown_more p b.accepted.cert.jitter b.plan b.entries b.position entry Q has.standing.flown flies;
      in_time = in_time';
      ahead =
          λ i x at. still_ahead p b.accepted.cert.jitter b.plan b.position flies.event Q.at flies.stated flies.step has.standing.ahead i x
          (subst (λ l. At l i x) flies.inputs at);
      inputs =
          λ i x at. (let k = still_at p b.plan b.position flies.event flies.stated i x (subst (λ l. At l i x) flies.inputs at) in
          has.standing.inputs k.0 x k.1);
      ordered =
          λ i x y at_x at_y. still_ordered p b.accepted.cert.jitter b.plan b.position flies.event Q.at flies.stated flies.step has.standing.ordered i x y
          (subst (λ l. At l i x) flies.inputs at_x) (subst (λ l. At l (suc i) y) flies.inputs at_y);
      fired_each = ap length flies.fired ∙ still_each flies.event b.position.fired ∙ has.standing.fired_each;
      fired =
          λ i lt. ap (λ l. slice_index_or l i 0) flies.fired ∙ still_counted p b.position flies.event Q.at flies.recorded entry b.entries i flies.tells
          (omega (arith, lt, has.standing.fired_each)) (has.standing.fired i lt);
    };
    each = counted.0 ∙ has.each;
    versions_are =
        λ i lt. counted.1 i lt ∙ ap (λ v. if writes_topic p i entry then suc v else v) (has.versions_are i lt) ∙ sym (version_more p i b.entries entry);
    room =
        record {
          ticks = less.0;
          horizon_is = less.1;
          events = omega (arith, less.2, has.room.events, e);
          all_numbers = omega (arith, less.3, has.room.all_numbers, n);
        };
    events = ap (λ i. i + entries_left') (length-append b.entries (entry ∷ [])) ∙ omega (arith, e, has.events);
  }
