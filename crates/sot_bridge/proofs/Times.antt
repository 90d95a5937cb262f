-- Sends come in order of time, and by the horizon.
use Rattle.std.proofs.Common.{◌≡◌, ℕ, zero, suc, ◌≤◌, Bool, true, false, ℤ, List, [], ◌∷◌, ◌++◌, map, ap, subst, arith}
use Rattle.std.specs.Prelude.{if◌then◌else◌}
use Rattle.std.proofs.lemmas.Option.{none-some, same_Some}
use Rattle.sot_lists.specs.Places.{At}
use Rattle.sot_lang.specs.Tables.{Tables}
use Rattle.sot_world.specs.Configurations.{Configuration}
use Rattle.sot_world.specs.Steps.{Event, Input, Code, Guest, Decide, Tick, Step}
use Rattle.sot_world.specs.Outcomes.{Recorded}
use Rattle.sot_world.specs.HistoryEntry.{Logged}
use Rattle.sot_flight.specs.Plans.{Plan}
use Rattle.sot_flight.specs.Relayed.{Send}
use Rattle.sot_board.specs.Flown.{Position, Tells, Leads, FlownBy}
use Rattle.sot_history_state.specs.Scenes.{scalars_after}
use Rattle.sot_bridge.specs.SendLaws.{value_of, time_of, sends_on, sent_by, sends_from, sends_of}
use Rattle.sot_bridge.specs.Laws.{SendsAreInOrder}

-- sends between two times, each not before the one before it
abbrev pub AreBetween : ℕ → ℕ → List Send → Type 0
AreBetween low high [] = Unit {0}
AreBetween low high (s ∷ sends) = (low ≤ s.at) × (s.at ≤ high) × AreBetween s.at high sends

from_less : (l m h : ℕ) (sends : List Send) → l ≤ m → AreBetween m h sends → AreBetween l h sends
from_less l m h [] le b = tt
from_less l m h (s ∷ sends) le b = (let low = b.0 in omega (arith, le, low), b.1, b.2)

in_order : (l h : ℕ) (sends : List Send) → AreBetween l h sends → (i : ℕ) (s t : Send) → At sends i s → At sends (suc i) t → s.at ≤ t.at
in_order l h [] b i s t at_s at_t = absurd (none-some s at_s)
in_order l h (x ∷ []) b zero s t at_s at_t = absurd (none-some t at_t)
in_order l h (x ∷ y ∷ sends) b zero s t at_s at_t =
    let first : x.at ≡ s.at = ap (λ (z : Send). z.at) (same_Some x s at_s) in
    let second : y.at ≡ t.at = ap (λ (z : Send). z.at) (same_Some y t at_t) in
    let le = b.2.0 in
    omega (arith, first, second, le)
in_order l h (x ∷ sends) b (suc i) s t at_s at_t = in_order x.at h sends b.2 i s t at_s at_t

in_time : (l h : ℕ) (sends : List Send) → AreBetween l h sends → (i : ℕ) (s : Send) → At sends i s → s.at ≤ h
in_time l h [] b i s at = absurd (none-some s at)
in_time l h (x ∷ sends) b zero s at = (let e : x.at ≡ s.at = ap (λ (z : Send). z.at) (same_Some x s at) in let le = b.1 in omega (arith, e, le))
in_time l h (x ∷ sends) b (suc i) s at = in_time x.at h sends b.2 i s at

module _ (p : Tables) (jitter : ℕ) (f : Plan) (topic : ℕ) where
  -- an entry has the time of the position before it, and time does not fall
  one_time : (P Q : Position) (e : Event) (r : Recorded) (x : Logged) → Step p jitter P.at e Q.at → Tells P.at e r Q.at x
      → (time_of x ≡ P.at.time) × (P.at.time ≤ Q.at.time)
  one_time P Q (Input k value) r x step is =
      (ap time_of is, (let e : Q.at.time ≡ P.at.time = ap (λ (c : Configuration). c.time) step.rest in omega (arith, e)))
  one_time P Q (Code n) r x step (draft, enabled, was, is) = (ap time_of is, (let e = step.fires.time in omega (arith, e)))
  one_time P Q (Guest n d) r x step (draft, enabled, was, is) = (ap time_of is, (let e = step.fires.time in omega (arith, e)))
  one_time P Q (Decide m) r x step (mode, was, is) =
      (ap time_of is, (let e : Q.at.time ≡ P.at.time = ap (λ (c : Configuration). c.time) step.rest in omega (arith, e)))
  one_time P Q (Tick noise) r x step is = (ap time_of is, (let e = step.time in omega (arith, e)))

  -- what an entry sends comes before what those behind it send
  one_between : (x : Logged) (xs : List ℤ) (l m h : ℕ) (sends : List Send) → time_of x ≡ l → l ≤ m → m ≤ h → AreBetween m h sends
      → AreBetween l h (sent_by p topic x xs ++ sends)
  one_between x xs l m h sends same le in_all b = go (sends_on p topic x)
    where
      go : (on : Bool) → AreBetween l h ((if on then record { at = time_of x; value = value_of p topic xs } ∷ [] else []) ++ sends)
      go true = (omega (arith, same), omega (arith, same, le, in_all), from_less (time_of x) m h sends (omega (arith, same, le)) b)
      go false = from_less l m h sends le b

  led_between : (P : Position) (es : List Logged) (Q : Position) (xs : List ℤ) → Leads p jitter f P es Q
      → (P.at.time ≤ Q.at.time) × AreBetween P.at.time Q.at.time (sends_from p topic xs es)
  led_between P [] Q xs led = ((let e : P.at.time ≡ Q.at.time = ap (λ (x : Position). x.at.time) led in omega (arith, e)), tt)
  led_between P (x ∷ es) Q xs (R, flies, led) =
      let one = one_time P R flies.event flies.recorded x flies.step flies.tells in
      let ys = scalars_after p x xs in
      let rest = led_between R es Q ys led in
      let first = one.1 in
      let later = rest.0 in (
        omega (arith, first, later),
        one_between x ys P.at.time R.at.time Q.at.time (sends_from p topic ys es) one.0 first later rest.1,
      )

pub between : (p : Tables) (jitter : ℕ) (f : Plan) (entries : List Logged) (topic : ℕ) → FlownBy p jitter f entries
    → AreBetween 0 f.horizon (sends_of p topic entries)
between p jitter f entries topic (Q, (P, start, led), end) =
    let b = (led_between p jitter f topic P entries Q (map (λ i. i.init) p.scalars) led).1 in
    subst (λ h. AreBetween 0 h (sends_of p topic entries)) end.time (subst (λ l. AreBetween l Q.at.time (sends_of p topic entries)) start.opening.time b)

pub sends_in_order : SendsAreInOrder
sends_in_order p jitter f entries topic flown =
    let b = between p jitter f entries topic flown in
    (in_order 0 f.horizon (sends_of p topic entries) b, in_time 0 f.horizon (sends_of p topic entries) b)
