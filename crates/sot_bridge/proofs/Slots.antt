-- The value of a topic, slot by slot.
use Rattle.std.proofs.Common.{◌≡◌, ℕ, zero, suc, ◌+◌, ◌-◌, ◌<◌, ◌≤◌, ℤ, pos, List, [], ◌∷◌, ◌++◌, Some, None, length, map, take, drop, replicate}
use Rattle.std.proofs.Common.{refl, sym, ap, ◌∙◌, subst, arith}
use Rattle.std.specs.Prelude.{slice_index_or}
use Rattle.std.specs.Option.{option_map_or}
use Rattle.std.proofs.lemmas.List.{length-drop, length-take-le}
use Rattle.std.proofs.lemmas.Option.{none-some, get_or_from_slice_get}
use Rattle.sot_lists.specs.Places.{At}
use Rattle.sot_lists.proofs.Places.{at_below}
use Rattle.sot_lang.specs.declared.tables.TopicInfo.{TopicInfo}
use Rattle.sot_lang.specs.Tables.{Tables}
use Rattle.sot_lang.specs.TableRules.{MeetsTableRules}
use Rattle.sot_lang.proofs.Topics.{topic_inside}
use Rattle.sot_code.specs.Recorded.{in_slots}
use Rattle.sot_flight.specs.Relayed.{drafted}
use Rattle.sot_history_state.specs.Scenes.{first_of}
use Rattle.sot_bridge.specs.SendLaws.{value_of}

at_taken : {A : Type 0} (n : ℕ) (xs : List A) (k : ℕ) (x : A) → k < n → At xs k x → At (take n xs) k x
at_taken n [] k x lt at = absurd (none-some x at)
at_taken zero (y ∷ ys) k x lt at = absurd (omega (arith, lt))
at_taken (suc n) (y ∷ ys) zero x lt at = at
at_taken (suc n) (y ∷ ys) (suc k) x lt at = at_taken n ys k x (omega (arith, lt)) at

at_dropped : {A : Type 0} (n : ℕ) (xs : List A) (k : ℕ) (x : A) → At xs (n + k) x → At (drop n xs) k x
at_dropped zero xs k x at = (let e : 0 + k ≡ k = omega arith in subst (λ m. At xs m x) e at)
at_dropped (suc n) [] k x at = absurd (none-some x at)
at_dropped (suc n) (y ∷ ys) k x at =
    (let e : suc n + k ≡ suc (n + k) = omega arith in at_dropped n ys k x (subst (λ m. At (y ∷ ys) m x) e at))

module _ (p : Tables) (rules : MeetsTableRules p) (topic : ℕ) (info : TopicInfo) (there : At p.topics topic info) where
  value_is : (xs : List ℤ) → value_of p topic xs ≡ take info.count (drop info.first xs)
  value_is xs =
      ap (λ o. take (option_map_or (λ (x : TopicInfo). x.count) o 0) (drop (first_of p topic) xs)) there
      ∙ ap (λ o. take info.count (drop (option_map_or (λ (x : TopicInfo). x.first) o 0) xs)) there

  pub value_length : (xs : List ℤ) → length xs ≡ length p.scalars → length (value_of p topic xs) ≡ info.count
  value_length xs size =
      let inside = topic_inside p rules topic info there in
      let behind = length-drop info.first xs in
      let room : info.count ≤ length (drop info.first xs) = omega (arith, inside, size, behind) in
      ap length (value_is xs) ∙ length-take-le info.count (drop info.first xs) room

  -- the number in a slot is the one of its scalar
  pub value_slot : (xs : List ℤ) → length xs ≡ length p.scalars → (i : ℕ) → i < info.count
      → At (value_of p topic xs) i (slice_index_or xs (info.first + i) (pos 0))
  value_slot xs size i lt =
      let inside = topic_inside p rules topic info there in
      let k = info.first + i in
      let one = at_below xs k (omega (arith, inside, size, lt)) in
      let read : one.0 ≡ slice_index_or xs k (pos 0) = sym (get_or_from_slice_get xs k one.0 (pos 0) one.1) in
      let at : At xs k (slice_index_or xs k (pos 0)) = one.1 ∙ ap Some read in
      let here = at_taken info.count (drop info.first xs) i (slice_index_or xs k (pos 0)) lt (at_dropped info.first xs i (slice_index_or xs k (pos 0)) at) in
      subst (λ vs. At vs i (slice_index_or xs k (pos 0))) (sym (value_is xs)) here

blank_slots : (n : ℕ) → drafted (replicate n None) ≡ []
blank_slots zero = refl
blank_slots (suc n) = blank_slots n

full_slots : (vs : List ℤ) (n : ℕ) → drafted (map Some vs ++ replicate n None) ≡ vs
full_slots [] n = blank_slots n
full_slots (v ∷ vs) n = ap (λ l. v ∷ l) (full_slots vs n)

-- what is drafted in the first slots is all that is drafted
pub drafted_slots : (vs : List ℤ) → drafted (in_slots (map Some vs)) ≡ vs
drafted_slots vs = full_slots vs (8 - length (map Some vs))
