-- What is sent is in the ranges of the topic's scalars.
use Rattle.std.proofs.Common.{◌≡◌, ℕ, zero, suc, ◌+◌, ◌≤◌, Bool, true, false, ℤ, pos, List, [], ◌∷◌, ◌++◌, Option, length, map, take, drop}
use Rattle.std.proofs.Common.{sym, ap, ◌∙◌, subst, arith}
use Rattle.std.specs.Prelude.{if◌then◌else◌, slice_index_or, slice_get}
use Rattle.std.specs.Option.{option_map_or}
use Rattle.std.proofs.lemmas.List.{length-drop, length-take-le}
use Rattle.std.proofs.lemmas.Option.{none-some, same_Some, get_or_from_slice_get}
use Rattle.sot_lists.specs.Places.{At}
use Rattle.sot_box.specs.Sides.{IsIn}
use Rattle.sot_box.specs.Boxes.{IsWithin}
use Rattle.sot_box.proofs.Ranges.{within_read}
use Rattle.sot_lang.specs.declared.tables.TopicInfo.{TopicInfo}
use Rattle.sot_lang.specs.Tables.{Tables}
use Rattle.sot_lang.specs.TableRules.{MeetsTableRules}
use Rattle.sot_lang.specs.Ranges.{range_of, scalar_ranges}
use Rattle.sot_lang.proofs.Topics.{topic_inside}
use Rattle.sot_world.specs.Steps.{Event, Input, Code, Guest, Decide, Tick, Step, published, write_at}
use Rattle.sot_world.specs.Outcomes.{Recorded}
use Rattle.sot_world.specs.HistoryEntry.{Logged}
use Rattle.sot_world.proofs.Writes.{write_within}
use Rattle.sot_world.proofs.Publishes.{publish_within}
use Rattle.sot_world.proofs.Modes.{scalars_length}
use Rattle.sot_flight.specs.Plans.{Plan}
use Rattle.sot_flight.specs.Relayed.{Send}
use Rattle.sot_board.specs.Flown.{Position, Tells, Leads, FlownBy}
use Rattle.sot_trace.specs.Lines.{writes_of}
use Rattle.sot_history_state.specs.Scenes.{first_of, scalars_after}
use Rattle.sot_bridge.specs.SendLaws.{value_of, time_of, sends_on, sent_by, sends_from, sends_of}
use Rattle.sot_bridge.specs.Laws.{SendsAreInRange}

at_front : {A : Type 0} (n : ℕ) (xs : List A) (k : ℕ) (x : A) → At (take n xs) k x → At xs k x
at_front zero [] k x at = at
at_front zero (y ∷ ys) k x at = absurd (none-some x at)
at_front (suc n) [] k x at = at
at_front (suc n) (y ∷ ys) zero x at = at
at_front (suc n) (y ∷ ys) (suc k) x at = at_front n ys k x at

at_behind : {A : Type 0} (n : ℕ) (xs : List A) (k : ℕ) (x : A) → At (drop n xs) k x → At xs (n + k) x
at_behind zero [] k x at = absurd (none-some x at)
at_behind zero (y ∷ ys) k x at = (let e : k ≡ 0 + k = omega arith in subst (λ m. At (y ∷ ys) m x) e at)
at_behind (suc n) [] k x at = absurd (none-some x at)
at_behind (suc n) (y ∷ ys) k x at =
    (let e : suc (n + k) ≡ suc n + k = omega arith in subst (λ m. At (y ∷ ys) m x) e (at_behind n ys k x at))

-- a number for each scalar of the topic, in the scalar's range
abbrev pub IsValueFor : Tables → TopicInfo → List ℤ → Type 0
IsValueFor p info value =
    (length value ≡ info.count) × ((k : ℕ) (z : ℤ) → At value k z → IsIn (range_of p.scalars (info.first + k)) z)

abbrev pub AreValuesFor : Tables → TopicInfo → List Send → Type 0
AreValuesFor p info [] = Unit {0}
AreValuesFor p info (s ∷ sends) = IsValueFor p info s.value × AreValuesFor p info sends

pub value_at : (p : Tables) (info : TopicInfo) (sends : List Send) → AreValuesFor p info sends → (i : ℕ) (s : Send) → At sends i s → IsValueFor p info s.value
value_at p info [] are i s at = absurd (none-some s at)
value_at p info (x ∷ sends) are zero s at = subst (λ (y : Send). IsValueFor p info y.value) (same_Some x s at) are.0
value_at p info (x ∷ sends) are (suc i) s at = value_at p info sends are.1 i s at

module _ (p : Tables) (rules : MeetsTableRules p) (topic : ℕ) (info : TopicInfo) (there : At p.topics topic info) where
  first_is : first_of p topic ≡ info.first
  first_is = ap (λ o. option_map_or (λ (x : TopicInfo). x.first) o 0) there

  count_is : option_map_or (λ (x : TopicInfo). x.count) (slice_get p.topics topic) 0 ≡ info.count
  count_is = ap (λ o. option_map_or (λ (x : TopicInfo). x.count) o 0) there

  value_is : (xs : List ℤ) → value_of p topic xs ≡ take info.count (drop info.first xs)
  value_is xs = ap (λ n. take n (drop (first_of p topic) xs)) count_is ∙ ap (λ n. take info.count (drop n xs)) first_is

  -- where all scalars are in their ranges, so is the value of the topic
  value_for : (xs : List ℤ) → IsWithin (scalar_ranges p) xs → IsValueFor p info (value_of p topic xs)
  value_for xs within =
      let inside = topic_inside p rules topic info there in
      let size = scalars_length p xs within in
      let behind = length-drop info.first xs in
      let room : info.count ≤ length (drop info.first xs) = omega (arith, inside, size, behind) in
      let here : IsValueFor p info (take info.count (drop info.first xs)) = (
        length-take-le info.count (drop info.first xs) room,
        λ k z at. (let of_all = at_behind info.first xs k z (at_front info.count (drop info.first xs) k z at) in
            let read : slice_index_or xs (info.first + k) (pos 0) ≡ z = get_or_from_slice_get xs (info.first + k) z (pos 0) of_all in
            subst (IsIn (range_of p.scalars (info.first + k))) read (within_read (scalar_ranges p) xs (info.first + k) within)),
      ) in
      subst (IsValueFor p info) (sym (value_is xs)) here

  fired_within : (on : Bool) (ws : List ℕ) (draft : List (Option ℤ)) (xs : List ℤ) → IsWithin (scalar_ranges p) xs
      → IsWithin (scalar_ranges p) (published on p ws draft xs)
  fired_within true ws draft xs within = publish_within p ws draft xs within
  fired_within false ws draft xs within = within

  -- an entry leaves all scalars in their ranges
  one_within : (j : ℕ) (P Q : Position) (e : Event) (r : Recorded) (x : Logged) (xs : List ℤ) → Step p j P.at e Q.at → Tells P.at e r Q.at x
      → IsWithin (scalar_ranges p) xs → IsWithin (scalar_ranges p) (scalars_after p x xs)
  one_within j P Q (Input k value) r x xs step is within =
      let first : step.info.first ≡ first_of p k = sym (ap (λ o. option_map_or (λ (y : TopicInfo). y.first) o 0) step.is) in
      subst (λ y. IsWithin (scalar_ranges p) (scalars_after p y xs)) (sym is)
      (subst (λ n. IsWithin (scalar_ranges p) (write_at n value xs)) first (write_within (scalar_ranges p) step.info.first value xs within step.typed))
  one_within j P Q (Code n) r x xs step (draft, enabled, was, is) within =
      subst (λ y. IsWithin (scalar_ranges p) (scalars_after p y xs)) (sym is) (fired_within enabled (writes_of p n) _ xs within)
  one_within j P Q (Guest n d) r x xs step (draft, enabled, was, is) within =
      subst (λ y. IsWithin (scalar_ranges p) (scalars_after p y xs)) (sym is) (fired_within enabled (writes_of p n) _ xs within)
  one_within j P Q (Decide m) r x xs step (mode, was, is) within = subst (λ y. IsWithin (scalar_ranges p) (scalars_after p y xs)) (sym is) within
  one_within j P Q (Tick noise) r x xs step is within = subst (λ y. IsWithin (scalar_ranges p) (scalars_after p y xs)) (sym is) within

  one_value : (x : Logged) (xs : List ℤ) (sends : List Send) → IsWithin (scalar_ranges p) xs → AreValuesFor p info sends
      → AreValuesFor p info (sent_by p topic x xs ++ sends)
  one_value x xs sends within rest = go (sends_on p topic x)
    where
      go : (on : Bool) → AreValuesFor p info ((if on then record { at = time_of x; value = value_of p topic xs } ∷ [] else []) ++ sends)
      go true = (value_for xs within, rest)
      go false = rest

  led_values : (j : ℕ) (f : Plan) (P : Position) (es : List Logged) (Q : Position) (xs : List ℤ) → Leads p j f P es Q → IsWithin (scalar_ranges p) xs
      → AreValuesFor p info (sends_from p topic xs es)
  led_values j f P [] Q xs led within = tt
  led_values j f P (x ∷ es) Q xs (R, flies, led) within =
      let ys = scalars_after p x xs in
      let after = one_within j P R flies.event flies.recorded x xs flies.step flies.tells within in
      one_value x ys (sends_from p topic ys es) after (led_values j f R es Q ys led after)

  pub flown_values : (j : ℕ) (f : Plan) (entries : List Logged) → FlownBy p j f entries → AreValuesFor p info (sends_of p topic entries)
  flown_values j f entries (Q, (P, start, led), end) = led_values j f P entries Q (map (λ i. i.init) p.scalars) led rules.typed.inits

pub sends_in_range : SendsAreInRange
sends_in_range p jitter f entries topic info rules there flown i s at =
    value_at p info (sends_of p topic entries) (flown_values p rules topic info there jitter f entries flown) i s at
