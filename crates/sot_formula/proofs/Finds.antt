-- What is found is what is named.
use Rattle.std.proofs.Common.{◌≡◌, ℕ, zero, suc, ◌+◌, ◌-◌, ◌≤◌, ◌<◌, true, false, List, [], ◌∷◌, Some}
use Rattle.std.proofs.Common.{None, Option, take, drop, ◌⊎◌, inl, inr, ⊎_elim, refl, sym, ap, subst, ◌∙◌, arith}
use Rattle.std.specs.Prelude.{slice_get}
use Rattle.std.specs.List.{position}
use Rattle.std.specs.Option.{option_map_or, option_map, option_and_then}
use Rattle.std.specs.Str.{bytes_eq}
use Rattle.std.proofs.lemmas.Option.{none-some, same_Some, option_and_then_some}
use Rattle.std.proofs.lemmas.Slice.Eq.{bytes_eq-Decides}
use Rattle.sot_lists.specs.Places.{At}
use Rattle.sot_lists.proofs.Places.{at_same}
use Rattle.sot_lang.specs.declared.tables.TopicInfo.{TopicInfo}
use Rattle.sot_lang.specs.declared.tables.ScalarInfo.{ScalarInfo}
use Rattle.sot_lang.specs.declared.tables.PlantInfo.{PlantInfo}
use Rattle.sot_lang.specs.declared.tables.StateInfo.{StateInfo}
use Rattle.sot_lang.specs.declared.tables.ModuleInfo.{ModuleInfo}
use Rattle.sot_lang.specs.Tables.{Tables}
use Rattle.sot_lang.specs.TableRules.{MeetsTableRules}
use Rattle.sot_formula.specs.declared.quantity.Quantity.{Quantity}
use Rattle.sot_formula.specs.declared.quantity.Quantity.TheVariants as quantities
use Rattle.sot_formula.specs.declared.finding.FoundQuantity.{FoundQuantity}
use Rattle.sot_formula.specs.Meanings.{scale_of, IsPlain, IsField, IsVariable, IsModule}
use Rattle.sot_formula.specs.Finding.{place_of, is_field, found_scalar, plain_of, plain_in}
use Rattle.sot_formula.specs.Finding.{plain_named, scalars_of, field_in, field_named, found_state, variable_in}
use Rattle.sot_formula.specs.Finding.{variable_named, or_else, part_named, module_named}
use Rattle.sot_lang.proofs.NamesOnce.{topic_same, plant_same, topic_no_plant, module_same}
use Rattle.sot_formula.proofs.Names.{found, found_at, found_first}

named_yes : (name word : List ℕ) → name ≡ word → bytes_eq name word ≡ true
named_yes name word e = (bytes_eq-Decides name word).1 e

named_is : (name word : List ℕ) → bytes_eq name word ≡ true → name ≡ word
named_is name word e = (bytes_eq-Decides name word).0 e

map_some : {A B : Type 0} (f : A → B) (o : Option A) (y : B) → option_map f o ≡ Some y → (x : A) × (o ≡ Some x) × (f x ≡ y)
map_some f None y e = absurd cc
map_some f (Some x) y e = (x, refl, same_Some (f x) y e)

plain_case : (o : Option (List ℕ)) (y x : FoundQuantity) → option_map_or (λ n. None) o (Some y) ≡ Some x → (o ≡ None) × (y ≡ x)
plain_case None y x e = (refl, same_Some y x e)
plain_case (Some n) y x e = absurd (none-some x e)

field_case : (o : Option (List ℕ)) (word : List ℕ) → option_map_or (λ n. bytes_eq n word) o false ≡ true → o ≡ Some word
field_case None word e = absurd cc
field_case (Some n) word e = ap Some (named_is n word e)

-- a slice of a list
at_slice : {A : Type 0} (xs : List A) (from count i : ℕ) (x : A) → At (take count (drop from xs)) i x → At xs (from + i) x × (i < count)
at_slice xs from count i x at = (dropped xs from i (taken (drop from xs) count i at).0, (taken (drop from xs) count i at).1)
  where
    taken : (ys : List _) (n k : ℕ) → At (take n ys) k x → At ys k x × (k < n)
    taken [] zero k at = absurd (none-some x at)
    taken [] (suc n) k at = absurd (none-some x at)
    taken (y ∷ ys) zero k at = absurd (none-some x at)
    taken (y ∷ ys) (suc n) zero at = (at, omega arith)
    taken (y ∷ ys) (suc n) (suc k) at = (let r = taken ys n k at in (r.0, omega (arith, r.1)))

    dropped : (ys : List _) (n k : ℕ) → At (drop n ys) k x → At ys (n + k) x
    dropped ys zero k at = (let same : k ≡ 0 + k = omega arith in subst (λ m. At ys m x) same at)
    dropped [] (suc n) k at = absurd (none-some x at)
    dropped (y ∷ ys) (suc n) k at =
        let step : At (y ∷ ys) (suc (n + k)) x = dropped ys n k at in
        let same : suc (n + k) ≡ suc n + k = omega arith in
        subst (λ m. At (y ∷ ys) m x) same step

slice_at : {A : Type 0} (xs : List A) (from count i : ℕ) (x : A) → At xs (from + i) x → i < count → At (take count (drop from xs)) i x
slice_at xs from count i x at lt = taken (drop from xs) count i (dropped xs from i at) lt
  where
    taken : (ys : List _) (n k : ℕ) → At ys k x → k < n → At (take n ys) k x
    taken [] n k at lt = absurd (none-some x at)
    taken (y ∷ ys) zero k at lt = absurd (omega (arith, lt))
    taken (y ∷ ys) (suc n) zero at lt = at
    taken (y ∷ ys) (suc n) (suc k) at lt = taken ys n k at (omega (arith, lt))

    dropped : (ys : List _) (n k : ℕ) → At ys (n + k) x → At (drop n ys) k x
    dropped ys zero k at = (let same : 0 + k ≡ k = omega arith in subst (λ m. At ys m x) same at)
    dropped [] (suc n) k at = absurd (none-some x at)
    dropped (y ∷ ys) (suc n) k at =
        let same : suc n + k ≡ suc (n + k) = omega arith in
        let step : At (y ∷ ys) (suc (n + k)) x = subst (λ m. At (y ∷ ys) m x) same at in
        dropped ys n k step

or_case : (a b : Option FoundQuantity) (x : FoundQuantity) → or_else a b ≡ Some x → (a ≡ Some x) ⊎ (b ≡ Some x)
or_case None b x e = inr e
or_case (Some y) b x e = inl e

or_second : (a b : Option FoundQuantity) (y : FoundQuantity) → ((x : FoundQuantity) → a ≡ Some x → ⊥) → b ≡ Some y → or_else a b ≡ Some y
or_second None b y none' e = e
or_second (Some x) b y none' e = absurd (none' x refl)

found_with : Quantity → ℕ → FoundQuantity
found_with q s = record { of = q; scale = s }

module _ (p : Tables) (rules : MeetsTableRules p) where
  -- where a topic, and where a plant of this name is
  topic_found : (word : List ℕ) (t : ℕ) (topic : TopicInfo) → At p.topics t topic → topic.name ≡ word
      → place_of (λ (x : TopicInfo). x.name) p.topics word ≡ Some t
  topic_found word t topic at is =
      found (λ (y : TopicInfo). bytes_eq y.name word) p.topics t topic at (named_yes topic.name word is)
      (λ j y at_y ok. (let e = topic_same p rules j t y topic at_y at (named_is y.name word ok ∙ sym is) in omega (arith, e)))

  plant_found : (word : List ℕ) (k : ℕ) (plant : PlantInfo) → At p.plants k plant → plant.name ≡ word
      → place_of (λ (x : PlantInfo). x.name) p.plants word ≡ Some k
  plant_found word k plant at is =
      found (λ (y : PlantInfo). bytes_eq y.name word) p.plants k plant at (named_yes plant.name word is)
      (λ j y at_y ok. (let e = plant_same p rules j k y plant at_y at (named_is y.name word ok ∙ sym is) in omega (arith, e)))

  -- a scalar in a topic's range is the topic's
  belongs : (t k : ℕ) (topic : TopicInfo) (info : ScalarInfo) → At p.topics t topic → At p.scalars k info → topic.first ≤ k
      → k < topic.first + topic.count → info.topic ≡ t
  belongs t k topic info at here low high =
      let mine = rules.typed.topic_scalar t k topic at low high in
      ap (λ (i : ScalarInfo). i.topic) (at_same p.scalars k info mine.0 here mine.1) ∙ mine.2

  -- a scalar is in its topic's range
  in_range : (k : ℕ) (info : ScalarInfo) (topic : TopicInfo) → At p.scalars k info → At p.topics info.topic topic → (topic.first ≤ k)
      × (k < topic.first + topic.count)
  in_range k info topic here at =
      let own = rules.typed.scalar_topic k info here in
      let one : own.0 ≡ topic = at_same p.topics info.topic own.0 topic own.1 at in
      (subst (λ (x : TopicInfo). x.first ≤ k) one own.2, subst (λ (x : TopicInfo). k < x.first + x.count) one own.3)

  pub plain_found : (word : List ℕ) (x : FoundQuantity) → plain_named p word ≡ Some x → (k : ℕ) × IsPlain p word k x.scale × (x.of ≡ quantities.Scalar k)
  unfolding plain_named
  plain_found word x e =
      option_and_then_some _ (place_of (λ (y : TopicInfo). y.name) p.topics word) x e (λ t is next.
      option_and_then_some (plain_in p) (slice_get p.topics t) x next (λ topic at own.
      option_and_then_some (plain_of topic.first) (slice_get p.scalars topic.first) x own (λ info here last.
      let named = found_at (λ (y : TopicInfo). bytes_eq y.name word) p.topics t is in
      let one : named.0 ≡ topic = at_same p.topics t named.0 topic named.1 at in
      let c = plain_case info.field (found_scalar topic.first info) x last in
      let some = (rules.topics t topic at).0 in
      let mine : info.topic ≡ t = belongs t topic.first topic info at here (omega arith) (omega (arith, some)) in (
        topic.first,
        record {
          topic = topic;
          info = info;
          is = here;
          topic_is = subst (λ n. At p.topics n topic) (sym mine) at;
          name_is = ap (λ (y : TopicInfo). y.name) (sym one) ∙ named_is named.0.name word named.2;
          plain = c.0;
          scale_is = ap (λ (y : FoundQuantity). y.scale) (sym c.1);
        },
        ap (λ (y : FoundQuantity). y.of) (sym c.1),
      ))))

  pub plain_finds : (word : List ℕ) (k scale : ℕ) → IsPlain p word k scale → plain_named p word ≡ Some (record { of = quantities.Scalar k; scale = scale })
  unfolding plain_named found_with
  plain_finds word k scale i =
      let range = in_range k i.info i.topic i.is i.topic_is in
      let one : i.topic.count ≡ 1 = (rules.scalars k i.info i.is).plain i.topic i.topic_is i.plain in
      let first : i.topic.first ≡ k = omega (arith, range.0, range.1, one) in
      let here : At p.scalars i.topic.first i.info = subst (λ n. At p.scalars n i.info) (sym first) i.is in
      ap (option_and_then (λ t. option_and_then (plain_in p) (slice_get p.topics t))) (topic_found word i.info.topic i.topic i.topic_is i.name_is)
      ∙ ap (option_and_then (plain_in p)) i.topic_is
      ∙ ap (option_and_then (plain_of i.topic.first)) here
      ∙ ap (λ o. option_map_or (λ n. None) o (Some (found_scalar i.topic.first i.info))) i.plain
      ∙ ap (λ n. Some (found_with (quantities.Scalar n) (scale_of i.info))) first
      ∙ ap (λ s. Some (found_with (quantities.Scalar k) s)) (sym i.scale_is)

  pub field_found : (word f : List ℕ) (x : FoundQuantity) → field_named p word f ≡ Some x → (k : ℕ) × IsField p word f k x.scale × (x.of ≡ quantities.Scalar k)
  unfolding field_named field_in
  field_found word f x e =
      option_and_then_some _ (place_of (λ (y : TopicInfo). y.name) p.topics word) x e (λ t is next.
      option_and_then_some (λ (y : TopicInfo). field_in p.scalars y.first y.count f) (slice_get p.topics t) x next (λ topic at own.
      option_and_then_some _ (position (is_field f) (scalars_of p.scalars topic.first topic.count)) x own (λ i passes last.
      let named = found_at (λ (y : TopicInfo). bytes_eq y.name word) p.topics t is in
      let one : named.0 ≡ topic = at_same p.topics t named.0 topic named.1 at in
      let own_slice = scalars_of p.scalars topic.first topic.count in
      let m = map_some (found_scalar (topic.first + i)) (slice_get own_slice i) x last in
      let s = at_slice p.scalars topic.first topic.count i m.0 m.1 in
      let ok = found_at (is_field f) own_slice i passes in
      let same : ok.0 ≡ m.0 = at_same own_slice i ok.0 m.0 ok.1 m.1 in
      let mine : m.0.topic ≡ t = belongs t (topic.first + i) topic m.0 at s.0 (omega arith) (omega (arith, s.1)) in (
        topic.first + i,
        record {
          topic = topic;
          info = m.0;
          is = s.0;
          topic_is = subst (λ n. At p.topics n topic) (sym mine) at;
          name_is = ap (λ (y : TopicInfo). y.name) (sym one) ∙ named_is named.0.name word named.2;
          field_is = field_case m.0.field f (subst (λ (y : ScalarInfo). is_field f y ≡ true) same ok.2);
          scale_is = ap (λ (y : FoundQuantity). y.scale) (sym m.2);
        },
        ap (λ (y : FoundQuantity). y.of) (sym m.2),
      ))))

  pub field_finds : (word f : List ℕ) (k scale : ℕ) → IsField p word f k scale
      → field_named p word f ≡ Some (record { of = quantities.Scalar k; scale = scale })
  unfolding field_named field_in found_with
  field_finds word f k scale i =
      let range = in_range k i.info i.topic i.is i.topic_is in
      let n = k - i.topic.first in
      let place : i.topic.first + n ≡ k = omega (arith, range.0) in
      let below : n < i.topic.count = omega (arith, range.0, range.1) in
      let own = scalars_of p.scalars i.topic.first i.topic.count in
      let here : At own n i.info = slice_at p.scalars i.topic.first i.topic.count n i.info (subst (λ m. At p.scalars m i.info) (sym place) i.is) below in
      let yes' : is_field f i.info ≡ true = ap (λ o. option_map_or (λ w. bytes_eq w f) o false) i.field_is ∙ named_yes f f refl in
      let once = λ (j : ℕ) (y : ScalarInfo) (at_y : At own j y) (ok : is_field f y ≡ true).
      (let s = at_slice p.scalars i.topic.first i.topic.count j y at_y in
      let mine = belongs i.info.topic (i.topic.first + j) i.topic y i.topic_is s.0 (omega arith) (omega (arith, s.1)) in
      let same : i.topic.first + j ≡ k = rules.fields_once (i.topic.first + j) k y i.info s.0 i.is mine (field_case y.field f ok ∙ sym i.field_is) in
      let end : n ≤ j = omega (arith, same, place) in end) in
      ap (option_and_then (λ t. option_and_then (λ (y : TopicInfo). field_in p.scalars y.first y.count f) (slice_get p.topics t)))
      (topic_found word i.info.topic i.topic i.topic_is i.name_is)
      ∙ ap (option_and_then (λ (y : TopicInfo). field_in p.scalars y.first y.count f)) i.topic_is
      ∙ ap (option_and_then (λ m. option_map (found_scalar (i.topic.first + m)) (slice_get own m))) (found (is_field f) own n i.info here yes' once)
      ∙ ap (option_map (found_scalar (i.topic.first + n))) here
      ∙ ap (λ m. Some (found_with (quantities.Scalar m) (scale_of i.info))) place
      ∙ ap (λ s. Some (found_with (quantities.Scalar k) s)) (sym i.scale_is)

  pub variable_found : (word f : List ℕ) (x : FoundQuantity) → variable_named p word f ≡ Some x → (k v : ℕ) × IsVariable p word f k v x.scale
      × (x.of ≡ quantities.State k v)
  unfolding variable_named variable_in
  variable_found word f x e =
      option_and_then_some _ (place_of (λ (y : PlantInfo). y.name) p.plants word) x e (λ k is next.
      option_and_then_some (λ (y : PlantInfo). variable_in y.states.items k f) (slice_get p.plants k) x next (λ plant at own.
      option_and_then_some _ (place_of (λ (y : StateInfo). y.name) plant.states.items f) x own (λ v passes last.
      let named = found_at (λ (y : PlantInfo). bytes_eq y.name word) p.plants k is in
      let one : named.0 ≡ plant = at_same p.plants k named.0 plant named.1 at in
      let m = map_some (found_state k v) (slice_get plant.states.items v) x last in
      let ok = found_at (λ (y : StateInfo). bytes_eq y.name f) plant.states.items v passes in
      let same : ok.0 ≡ m.0 = at_same plant.states.items v ok.0 m.0 ok.1 m.1 in (
        k,
        v,
        record {
          plant = plant;
          state = m.0;
          is = at;
          name_is = ap (λ (y : PlantInfo). y.name) (sym one) ∙ named_is named.0.name word named.2;
          state_is = m.1;
          var_is = ap (λ (y : StateInfo). y.name) (sym same) ∙ named_is ok.0.name f ok.2;
          first = λ j y at_y is_y. found_first (λ (z : StateInfo). bytes_eq z.name f) plant.states.items v passes j y at_y (named_yes y.name f is_y);
          scale_is = ap (λ (y : FoundQuantity). y.scale) (sym m.2);
        },
        ap (λ (y : FoundQuantity). y.of) (sym m.2),
      ))))

  pub variable_finds : (word f : List ℕ) (k v scale : ℕ) → IsVariable p word f k v scale
      → variable_named p word f ≡ Some (record { of = quantities.State k v; scale = scale })
  unfolding variable_named variable_in found_with
  variable_finds word f k v scale i =
      let place = found (λ (y : StateInfo). bytes_eq y.name f) i.plant.states.items v i.state i.state_is (named_yes i.state.name f i.var_is)
      (λ j y at_y ok. i.first j y at_y (named_is y.name f ok)) in
      ap (option_and_then (λ n. option_and_then (λ (y : PlantInfo). variable_in y.states.items n f) (slice_get p.plants n)))
      (plant_found word k i.plant i.is i.name_is)
      ∙ ap (option_and_then (λ (y : PlantInfo). variable_in y.states.items k f)) i.is
      ∙ ap (option_and_then (λ n. option_map (found_state k n) (slice_get i.plant.states.items n))) place
      ∙ ap (option_map (found_state k v)) i.state_is
      ∙ ap (λ s. Some (found_with (quantities.State k v) s)) (sym i.scale_is)

  pub part_found : (word f : List ℕ) (x : FoundQuantity) → part_named p word f ≡ Some x
      → ((k : ℕ) × IsField p word f k x.scale × (x.of ≡ quantities.Scalar k)) ⊎ ((k v : ℕ) × IsVariable p word f k v x.scale × (x.of ≡ quantities.State k v))
  unfolding part_named
  part_found word f x e =
      ⊎_elim (λ a. inl (field_found word f x a)) (λ b. inr (variable_found word f x b)) (or_case (field_named p word f) (variable_named p word f) x e)

  pub part_finds_field : (word f : List ℕ) (k scale : ℕ) → IsField p word f k scale
      → part_named p word f ≡ Some (record { of = quantities.Scalar k; scale = scale })
  unfolding part_named
  part_finds_field word f k scale i = ap (λ o. or_else o (variable_named p word f)) (field_finds word f k scale i)

  pub part_finds_variable : (word f : List ℕ) (k v scale : ℕ) → IsVariable p word f k v scale
      → part_named p word f ≡ Some (record { of = quantities.State k v; scale = scale })
  unfolding part_named
  part_finds_variable word f k v scale i =
      or_second (field_named p word f) (variable_named p word f) _
      (λ x e. (let a = (field_found word f x e).1 in topic_no_plant p rules a.info.topic k a.topic i.plant a.topic_is i.is (a.name_is ∙ sym i.name_is)))
      (variable_finds word f k v scale i)

  pub module_found : (word : List ℕ) (x : FoundQuantity) → module_named p word ≡ Some x → (m : ℕ) × IsModule p word m × (x.of ≡ quantities.Mode m) × (x.scale ≡ 0)
  unfolding module_named
  module_found word x e =
      let m = map_some (λ n. record { of = quantities.Mode n; scale = 0 }) (place_of (λ (y : ModuleInfo). y.name) p.modules word) x e in
      let ok = found_at (λ (y : ModuleInfo). bytes_eq y.name word) p.modules m.0 m.1 in (
        m.0,
        record { info = ok.0; is = ok.1; name_is = named_is ok.0.name word ok.2 },
        ap (λ (y : FoundQuantity). y.of) (sym m.2),
        ap (λ (y : FoundQuantity). y.scale)
            (sym m.2),
      )

  pub module_finds : (word : List ℕ) (m : ℕ) → IsModule p word m → module_named p word ≡ Some (record { of = quantities.Mode m; scale = 0 })
  unfolding module_named
  module_finds word m i =
      ap (option_map (λ n. record { of = quantities.Mode n; scale = 0 }))
      (found (λ (y : ModuleInfo). bytes_eq y.name word) p.modules m i.info i.is (named_yes i.info.name word i.name_is)
      (λ j y at_y ok. (let e = module_same p rules j m y i.info at_y i.is (named_is y.name word ok ∙ sym i.name_is) in omega (arith, e))))
