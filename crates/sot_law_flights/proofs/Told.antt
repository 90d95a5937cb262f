-- What the histories of a flight tell, by their entries.
use Rattle.std.proofs.Common.{◌≡◌, ℕ, zero, suc, ◌+◌, ◌<◌, ℤ, List, [], ◌∷◌, ◌++◌, refl, sym, ap, ◌∙◌, subst, arith}
use Rattle.std.proofs.lemmas.List.{append-nil}
use Rattle.sot_lists.specs.Places.{At}
use Rattle.sot_lang.specs.Tables.{Tables}
use Rattle.sot_lang.specs.Ticks.{joined}
use Rattle.sot_world.specs.Configurations.{Configuration}
use Rattle.sot_world.specs.Steps.{Event, Input, Code, Guest, Decide, Tick, Step}
use Rattle.sot_world.specs.Outcomes.{Recorded}
use Rattle.sot_world.specs.HistoryEntry.{Logged, InputAt, FireAt, DecideAt, TickAt}
use Rattle.sot_flight.specs.Plans.{StatedInput, Plan}
use Rattle.sot_flight.specs.Stated.{stated_noise}
use Rattle.sot_board.specs.Flown.{Position, IsStated, Tells, Flies, Leads, FlownSoFar, FlownBy, inputs_after}
use Rattle.sot_law_flights.specs.Told.{inputs_told, ticks_told}

module _ (p : Tables) (jitter : ℕ) (f : Plan) where
  -- one entry's part of the inputs, and what is left of the flight's
  one_input : (P Q : Position) (e : Event) (r : Recorded) (x : Logged) → IsStated p f P e → Tells P.at e r Q.at x → Q.inputs ≡ inputs_after e P.inputs
      → inputs_told (x ∷ []) ++ Q.inputs ≡ P.inputs
  one_input P Q (Input topic value) r x (rest, is) tells after =
      let left = after ∙ ap (inputs_after (Input topic value)) is in
      ap (λ y. inputs_told (y ∷ []) ++ Q.inputs) tells ∙ ap (λ xs. record { at = P.at.time; topic = topic; value = value } ∷ xs) left ∙ sym is
  one_input P Q (Code n) r x stated (draft, enabled, was, is) after = ap (λ y. inputs_told (y ∷ []) ++ Q.inputs) is ∙ after
  one_input P Q (Guest n d) r x stated (draft, enabled, was, is) after = ap (λ y. inputs_told (y ∷ []) ++ Q.inputs) is ∙ after
  one_input P Q (Decide m) r x stated (mode, was, is) after = ap (λ y. inputs_told (y ∷ []) ++ Q.inputs) is ∙ after
  one_input P Q (Tick noise) r x stated is after = ap (λ y. inputs_told (y ∷ []) ++ Q.inputs) is ∙ after

  -- an entry's inputs stand before those of the entries behind it
  told_behind : (x : Logged) (xs : List Logged) (ys : List StatedInput) → inputs_told (x ∷ xs) ++ ys ≡ inputs_told (x ∷ []) ++ (inputs_told xs ++ ys)
  told_behind (InputAt time topic value) xs ys = refl
  told_behind (FireAt time n draft enabled) xs ys = refl
  told_behind (DecideAt time m mode) xs ys = refl
  told_behind (TickAt time noise states) xs ys = refl

  led_inputs : (P : Position) (xs : List Logged) (Q : Position) → Leads p jitter f P xs Q → inputs_told xs ++ Q.inputs ≡ P.inputs
  led_inputs P [] Q led = ap (λ (x : Position). x.inputs) (sym led)
  led_inputs P (x ∷ xs) Q (R, flies, led) =
      told_behind x xs Q.inputs ∙ ap (λ ys. inputs_told (x ∷ []) ++ ys) (led_inputs R xs Q led)
      ∙ one_input P R flies.event flies.recorded x flies.stated flies.tells flies.inputs

  pub flown_inputs : (xs : List Logged) (Q : Position) → FlownSoFar p jitter f xs Q → inputs_told xs ++ Q.inputs ≡ f.inputs
  flown_inputs xs Q (P, start, led) = led_inputs P xs Q led ∙ start.inputs

  pub whole_inputs : (xs : List Logged) → FlownBy p jitter f xs → inputs_told xs ≡ f.inputs
  whole_inputs xs (Q, flown, end) = sym (append-nil (inputs_told xs)) ∙ ap (λ ys. inputs_told xs ++ ys) (sym end.inputs) ∙ flown_inputs xs Q flown

  -- one entry's part of the time
  stays : (P Q : Position) (x y : Logged) → Q.at.time ≡ P.at.time → ticks_told (y ∷ []) ≡ 0 → x ≡ y → Q.at.time ≡ ticks_told (x ∷ []) + P.at.time
  stays P Q x y time none is = omega (arith, time, none, ap (λ z. ticks_told (z ∷ [])) is)

  one_tick : (P Q : Position) (e : Event) (r : Recorded) (x : Logged) → Step p jitter P.at e Q.at → Tells P.at e r Q.at x
      → Q.at.time ≡ ticks_told (x ∷ []) + P.at.time
  one_tick P Q (Input topic value) r x step is = stays P Q x (InputAt P.at.time topic value) (ap (λ (c : Configuration). c.time) step.rest) refl is
  one_tick P Q (Code n) r x step (draft, enabled, was, is) = stays P Q x _ step.fires.time refl is
  one_tick P Q (Guest n d) r x step (draft, enabled, was, is) = stays P Q x _ step.fires.time refl is
  one_tick P Q (Decide m) r x step (mode, was, is) = stays P Q x _ (ap (λ (c : Configuration). c.time) step.rest) refl is
  one_tick P Q (Tick noise) r x step is =
      let one : ticks_told (x ∷ []) ≡ 1 = ap (λ z. ticks_told (z ∷ [])) is in
      omega (arith, step.time, one)

  ticks_behind : (x : Logged) (xs : List Logged) → ticks_told (x ∷ xs) ≡ ticks_told (x ∷ []) + ticks_told xs
  ticks_behind (InputAt time topic value) xs = omega (arith)
  ticks_behind (FireAt time n draft enabled) xs = omega (arith)
  ticks_behind (DecideAt time m mode) xs = omega (arith)
  ticks_behind (TickAt time noise states) xs = omega (arith)

  led_ticks : (P : Position) (xs : List Logged) (Q : Position) → Leads p jitter f P xs Q → Q.at.time ≡ ticks_told xs + P.at.time
  led_ticks P [] Q led =
      let same : Q.at.time ≡ P.at.time = ap (λ (x : Position). x.at.time) (sym led) in
      omega (arith, same)
  led_ticks P (x ∷ xs) Q (R, flies, led) =
      omega (arith, led_ticks R xs Q led, one_tick P R flies.event flies.recorded x flies.step flies.tells, ticks_behind x xs)

  pub flown_ticks : (xs : List Logged) (Q : Position) → FlownSoFar p jitter f xs Q → ticks_told xs ≡ Q.at.time
  flown_ticks xs Q (P, start, led) = omega (arith, led_ticks P xs Q led, start.opening.time)

  pub whole_ticks : (xs : List Logged) → FlownBy p jitter f xs → ticks_told xs ≡ f.horizon
  whole_ticks xs (Q, flown, end) = flown_ticks xs Q flown ∙ end.time

  -- the disturbances of a tick
  one_stated : (P Q : Position) (e : Event) (r : Recorded) (time : ℕ) (noise states : List ℤ) → IsStated p f P e
      → Tells P.at e r Q.at (TickAt time noise states)
      → (time < f.horizon) × (noise ≡ joined (stated_noise p f time))
  one_stated P Q (Input topic value) r time noise states stated is = absurd cc
  one_stated P Q (Code n) r time noise states stated (draft, enabled, was, is) = absurd cc
  one_stated P Q (Guest n d) r time noise states stated (draft, enabled, was, is) = absurd cc
  one_stated P Q (Decide m) r time noise states stated (mode, was, is) = absurd cc
  one_stated P Q (Tick given) r time noise states (before, none, as_stated) is =
      let at : time ≡ P.at.time = cc in
      let told : noise ≡ joined given = cc in
      (subst (λ t. t < f.horizon) (sym at) before, told ∙ ap joined as_stated ∙ ap (λ t. joined (stated_noise p f t)) (sym at))

  led_stated : (P : Position) (xs : List Logged) (Q : Position) → Leads p jitter f P xs Q → (i time : ℕ) (noise states : List ℤ)
      → At xs i (TickAt time noise states)
      → (time < f.horizon) × (noise ≡ joined (stated_noise p f time))
  led_stated P [] Q led i time noise states at = absurd cc
  led_stated P (x ∷ xs) Q (R, flies, led) zero time noise states at =
      let same : x ≡ TickAt time noise states = cc in
      one_stated P R flies.event flies.recorded time noise states flies.stated (subst (Tells P.at flies.event flies.recorded R.at) same flies.tells)
  led_stated P (x ∷ xs) Q (R, flies, led) (suc i) time noise states at = led_stated R xs Q led i time noise states at

  pub flown_stated : (xs : List Logged) (Q : Position) → FlownSoFar p jitter f xs Q → (i time : ℕ) (noise states : List ℤ) → At xs i (TickAt time noise states)
      → (time < f.horizon) × (noise ≡ joined (stated_noise p f time))
  flown_stated xs Q (P, start, led) = led_stated P xs Q led

  -- the last entry of a history, with the position before it
  pub led_last : (P : Position) (xs : List Logged) (x : Logged) (Q : Position) → Leads p jitter f P (xs ++ x ∷ []) Q
      → (R : Position) × Leads p jitter f P xs R × Flies p jitter f R x Q
  led_last P [] x Q (R, flies, led) = (P, refl, subst (Flies p jitter f P x) led flies)
  led_last P (y ∷ xs) x Q (R, flies, led) =
      let (S, front, last) = led_last R xs x Q led in
      (S, (R, flies, front), last)

  one_states : (P Q : Position) (e : Event) (r : Recorded) (time : ℕ) (noise states : List ℤ) → Tells P.at e r Q.at (TickAt time noise states)
      → states ≡ joined Q.at.points
  one_states P Q (Input topic value) r time noise states is = absurd cc
  one_states P Q (Code n) r time noise states (draft, enabled, was, is) = absurd cc
  one_states P Q (Guest n d) r time noise states (draft, enabled, was, is) = absurd cc
  one_states P Q (Decide m) r time noise states (mode, was, is) = absurd cc
  one_states P Q (Tick given) r time noise states is = (let same : states ≡ joined Q.at.points = cc in same)

  pub flown_states : (xs : List Logged) (time : ℕ) (noise states : List ℤ) (Q : Position) → FlownSoFar p jitter f (xs ++ TickAt time noise states ∷ []) Q
      → states ≡ joined Q.at.points
  flown_states xs time noise states Q (P, start, led) =
      let (R, front, last) = led_last P xs (TickAt time noise states) Q led in
      one_states R Q last.event last.recorded time noise states last.tells
