-- A flight that was read fits the program.
use Rattle.std.proofs.Common.{◌≡◌, ◌≢◌, ℕ, zero, suc, ◌+◌, ◌≤◌, ◌<◌, ⊎_elim, ℤ, pos, negsuc, ◌≤ℤ◌, Bool, true, false, List, [], ◌∷◌, length, map, take, drop}
use Rattle.std.proofs.Common.{Option, Some, None, Result, Ok, Err, IfOk, codes, refl, sym, ap, subst, ◌∙◌, arith}
use Rattle.std.specs.Prelude.{unsigned_abs, slice_index_or, slice_get, nat_le, nat_lt, int_le, ◌==◌, not, ◌||◌, bytes_eq, filter, position, is_none}
use Rattle.std.specs.List.{list_any}
use Rattle.std.proofs.lemmas.Bool.{eqb-true, eq-eqb, leb-true, ltb-true, cases_lt, lt-ltb, not-true, and_parts}
use Rattle.std.proofs.lemmas.Int.{ints}
use Rattle.std.proofs.lemmas.Option.{same_Some, none-some, slice_get_within, get_or_from_slice_get}
use Rattle.std.proofs.lemmas.List.{length-take-le}
use Rattle.std.proofs.lemmas.List.Quantifiers.{position-Some}
use Rattle.serde_json.specs.Data.{Data, Members}
use Rattle.serde_json.specs.Events.{items_len}
use Rattle.serde_json.specs.Find.{as_array, as_object, as_str}
use Rattle.sot_lists.specs.Places.{At}
use Rattle.sot_lists.proofs.Places.{at_below, at_map}
use Rattle.sot_box.specs.Sides.{Side, IsIn, nought}
use Rattle.sot_box.specs.Boxes.{IsWithin}
use Rattle.sot_lang.specs.declared.tables.TopicInfo.{TopicInfo}
use Rattle.sot_lang.specs.declared.tables.ScalarInfo.{ScalarInfo}
use Rattle.sot_lang.specs.declared.tables.PlantInfo.{PlantInfo}
use Rattle.sot_lang.specs.declared.tables.NodeInfo.{NodeInfo}
use Rattle.sot_lang.specs.Tables.{Tables}
use Rattle.sot_lang.specs.TableRules.{MeetsTableRules}
use Rattle.sot_lang.specs.Ranges.{bounds, range_of, scalar_ranges}
use Rattle.sot_lang.proofs.Topics.{topic_inside}
use Rattle.sot_json.specs.declared.fault.JsonKind.TheVariants.{WrongShape, OutsideRange, Width, Empty, Unknown, Order, NoGuest, GuestTwice, TooManyEvents}
use Rattle.sot_json.specs.declared.fault.JsonKind.TheVariants.{TooManyNumbers}
use Rattle.sot_json.specs.declared.fault.JsonFail.{JsonFail}
use Rattle.sot_json.specs.Answers.{Gives}
use Rattle.sot_json.specs.Says.{Says, or, unless}
use Rattle.sot_json.specs.Json.{whole, count, at, is_within, all_among}
use Rattle.sot_cert.specs.CertFormat.{number}
use Rattle.sot_json.proofs.Binds.{bind_ok, unless_ok, ok_same, told}
use Rattle.sot_json.proofs.Bounds.{int_le_true, whole_within}
use Rattle.sot_cert.proofs.Fits.{at_ok}
use Rattle.sot_flight.specs.declared.sway.SwayKind.{SwayKind}
use Rattle.sot_flight.specs.declared.sway.SwayKind.TheVariants as sway_kinds
use Rattle.sot_flight.specs.declared.crew.CrewKind.{CrewKind}
use Rattle.sot_flight.specs.declared.crew.CrewKind.TheVariants as crew_kinds
use Rattle.sot_flight.specs.Plans.{StatedInput, Plan, Sway, Still, Low, High, Listed, Drawn, Crew, Coded, Script, Wild, Guest}
use Rattle.sot_flight.specs.declared.spread.Spread.TheVariants.{Anywhere, Ends}
use Rattle.sot_flight.specs.Counts.{events_of, numbers_of}
use Rattle.sot_flight.specs.Fits.{FitsInput, FitsSway, FitsCrew, FitsFlight}
use Rattle.sot_flight.specs.ListForms.{number_in, number_at, numbers_in, numbers, rows_in, slot, draft, drafts, for_each_after}
use Rattle.sot_flight.specs.FlightFormat.{greatest, point_at, plant_names, start, last_time, time, is_outside, topic, ranges_of_topic, topic_ranges, input}
use Rattle.sot_flight.specs.FlightFormat.{inputs, sway_kind, sway_as, sway, has_noise, sway_at, sways, crew_kind, is_guest, guest, crew_as, crew, is_external}
use Rattle.sot_flight.specs.FlightFormat.{hold, edge_keys, crew_at, crews, node_names, flight_keys, counted, flight}
use Rattle.sot_flight.proofs.ReadForms.{numbers_len}
use Rattle.sot_flight.proofs.FoundLists.{found_len, found_at, read_len, read_at_place, taken_len}

-- ---- numbers

count_small : (n : ℕ) (d : Data) (x : ℕ) → count n d ≡ Ok x → x ≤ n
unfolding count
count_small n d x h =
    let z = bind_ok (whole (pos 0) (pos n) d) _ x h in
    let within = whole_within (pos 0) (pos n) z.0 d z.1 in
    let e : unsigned_abs z.0 ≡ x = ok_same (unsigned_abs z.0) x z.2 in
    small z.0 (within.0) (within.1) e
  where
    small : (z : ℤ) → pos 0 ≤ℤ z → z ≤ℤ pos n → unsigned_abs z ≡ x → x ≤ n
    small (pos k) low high e = omega (arith, ints, low, high, e)
    small (negsuc k) low high e = absurd (omega (arith, ints, low))

number_inside : (r : Side) (d : Data) (z : ℤ) → number_in r d ≡ Ok z → IsIn r z
unfolding number_in
number_inside r d z h =
    let n = bind_ok (number d) _ z h in
    let w = bind_ok (unless OutsideRange (is_within r.lo r.hi n.0)) _ z n.2 in
    let b : is_within r.lo r.hi n.0 ≡ true = unless_ok OutsideRange _ _ w.1 in
    let ends = and_parts (int_le r.lo n.0) (int_le n.0 r.hi) b in
    subst (IsIn r) (ok_same n.0 z w.2) (int_le_true r.lo n.0 ends.0, int_le_true n.0 r.hi ends.1)

-- a list of numbers, each in the range of its place
record AreInRanges (ranges : List Side) (zs : List ℤ) : Type 0 where
  size : length zs ≡ length ranges
  each_in : (i : ℕ) (z : ℤ) (r : Side) → At zs i z → At ranges i r → IsIn r z

numbers_inside : (ranges : List Side) (d : Data) (zs : List ℤ) → numbers_in ranges d ≡ Ok zs → AreInRanges ranges zs
unfolding numbers_in
numbers_inside ranges d zs h =
    let ds = bind_ok (or WrongShape (as_array d)) _ zs h in
    let ok = bind_ok (unless Width (items_len ds.0 == length ranges)) _ zs ds.2 in
    let n : items_len ds.0 ≡ length ranges = eqb-true _ _ (unless_ok Width _ _ ok.1) in
    record {
      size = read_len (number_at ranges) ds.0 zs ok.2 ∙ n;
      each_in = λ i z r at is.
          let e = read_at_place (number_at ranges) ds.0 zs ok.2 i z at in
          let range = ap (λ k. slice_index_or ranges k nought) (taken_len (number_at ranges) ds.0 zs ok.2 i z at)
          ∙ get_or_from_slice_get ranges i r nought is in
          subst (λ s. IsIn s z) range (number_inside _ e.0 z e.1);
    }

within_ranges : (ranges : List Side) (zs : List ℤ) → length zs ≡ length ranges → ((i : ℕ) (z : ℤ) (r : Side) → At zs i z → At ranges i r → IsIn r z)
    → IsWithin ranges zs
within_ranges [] [] size each_in = tt
within_ranges [] (z ∷ zs) size each_in = absurd (omega (arith, size))
within_ranges (r ∷ rs) [] size each_in = absurd (omega (arith, size))
within_ranges (r ∷ rs) (z ∷ zs) size each_in =
    let here = each_in 0 z r refl refl in
    (here.0, here.1, within_ranges rs zs (omega (arith, size)) (λ i y s at is. each_in (suc i) y s at is))

some_read : {A : Type 0} (xs : List A) → 0 < length xs → xs ≢ []
some_read [] lt e = absurd (omega (arith, lt))
some_read (x ∷ xs) lt e = cc

rows_fit : (plant : PlantInfo) (d : Data) (rows : List (List ℤ)) → rows_in (bounds plant) d ≡ Ok rows → FitsSway plant (Listed rows)
unfolding rows_in
rows_fit plant d rows h =
    let ds = bind_ok (or WrongShape (as_array d)) _ rows h in
    let ok = bind_ok (unless Empty (nat_lt 0 (items_len ds.0))) _ rows ds.2 in
    let n : 0 < items_len ds.0 = ltb-true _ _ (unless_ok Empty _ _ ok.1) in
    let f = λ (done : List (List ℤ)). numbers_in (bounds plant) in
    let size = read_len f ds.0 rows ok.2 in (
      some_read rows (omega (arith, n, size)),
      λ i row at.
          let e = read_at_place f ds.0 rows ok.2 i row at in
          let inside = numbers_inside (bounds plant) e.0 row e.1 in
          within_ranges (bounds plant) row inside.size inside.each_in,
    )

draft_len : (size : ℕ) (d : Data) (row : List (Option ℤ)) → draft size d ≡ Ok row → length row ≡ size
unfolding draft
draft_len size d row h =
    let ds = bind_ok (or WrongShape (as_array d)) _ row h in
    let ok = bind_ok (unless Width (items_len ds.0 == size)) _ row ds.2 in
    read_len (λ done. slot) ds.0 row ok.2 ∙ eqb-true _ _ (unless_ok Width _ _ ok.1)

record AreDrafts (size : ℕ) (rows : List (List (Option ℤ))) : Type 0 where
  some_row : rows ≢ []
  sizes : (i : ℕ) (row : List (Option ℤ)) → At rows i row → length row ≡ size

drafts_form : (size : ℕ) (d : Data) (rows : List (List (Option ℤ))) → drafts size d ≡ Ok rows → AreDrafts size rows
unfolding drafts
drafts_form size d rows h =
    let ds = bind_ok (or WrongShape (as_array d)) _ rows h in
    let ok = bind_ok (unless Empty (nat_lt 0 (items_len ds.0))) _ rows ds.2 in
    let n : 0 < items_len ds.0 = ltb-true _ _ (unless_ok Empty _ _ ok.1) in
    let f = λ (done : List (List (Option ℤ))). draft size in
    let len = read_len f ds.0 rows ok.2 in
    record {
      some_row = some_read rows (omega (arith, n, len));
      sizes = λ i row at. let e = read_at_place f ds.0 rows ok.2 i row at in
          draft_len size e.0 row e.1;
    }

-- ---- where the plants start

record Starts (p : Tables) (ps : List (List ℤ)) : Type 0 where
  count_is : length ps ≡ length p.plants
  widths : (k : ℕ) (plant : PlantInfo) → At p.plants k plant → length (slice_index_or ps k []) ≡ length plant.states.items

start_form : (p : Tables) (d : Data) (ps : List (List ℤ)) → start p d ≡ Ok ps → Starts p ps
unfolding start
start_form p d ps h =
    let ms = bind_ok (or WrongShape (as_object d)) _ ps h in
    let f = λ (done : List (List ℤ)). point_at ms.0 in
    let list = bind_ok (for_each_after f [] p.plants) _ ps ms.2 in
    let ok = bind_ok (unless Unknown (all_among ms.0 (plant_names p.plants))) _ ps list.2 in
    let found : for_each_after f [] p.plants ≡ Ok ps = list.1 ∙ ap Ok (ok_same list.0 ps ok.2) in
    let size : length ps ≡ length p.plants = omega (arith, found_len f [] p.plants ps found) in
    record {
      count_is = size;
      widths = λ k plant at.
          let lt : k < length ps = omega (arith, size, slice_get_within p.plants k plant at) in
          let point = at_below ps k lt in
          let said = at_ok plant.name (numbers (length plant.states.items)) ms.0 point.0 (found_at f p.plants ps found k plant point.0 at point.1) in
          ap length (get_or_from_slice_get ps k point.0 [] point.1) ∙ numbers_len (length plant.states.items) said.0 point.0 said.1;
    }

-- ---- inputs

taken_at : {A : Type 0} (xs : List A) (n k : ℕ) (x : A) → At xs k x → k < n → At (take n xs) k x
taken_at [] n k x h lt = absurd (none-some x h)
taken_at (y ∷ ys) zero k x h lt = absurd (omega (arith, lt))
taken_at (y ∷ ys) (suc n) zero x h lt = h
taken_at (y ∷ ys) (suc n) (suc k) x h lt = taken_at ys n k x h (omega (arith, lt))

dropped_at : {A : Type 0} (xs : List A) (n i : ℕ) (x : A) → At (drop n xs) i x → At xs (n + i) x
dropped_at xs zero i x h = (let e : zero + i ≡ i = omega arith in ap (λ k. slice_get xs k) e ∙ h)
dropped_at [] (suc n) i x h = absurd (none-some x h)
dropped_at (y ∷ ys) (suc n) i x h = (let e : suc n + i ≡ suc (n + i) = omega arith in ap (λ k. slice_get (y ∷ ys) k) e ∙ dropped_at ys n i x h)

last_taken : (xs : List StatedInput) (i : ℕ) (x : StatedInput) → At xs i x → last_time (take (suc i) xs) ≡ x.at
last_taken [] i x h = absurd (none-some x h)
last_taken (y ∷ xs) zero x h = ap (λ z. z.at) (same_Some y x h)
last_taken (y ∷ []) (suc i) x h = absurd (none-some x h)
last_taken (y ∷ z ∷ xs) (suc i) x h = last_taken (z ∷ xs) i x h

-- the time is by the horizon, and not before that of the input before
record IsTime (horizon before t : ℕ) : Type 0 where
  by_horizon : t ≤ horizon
  later : before ≤ t

time_form : (horizon : ℕ) (done : List StatedInput) (d : Data) (t : ℕ) → time horizon done d ≡ Ok t → IsTime horizon (last_time done) t
unfolding time
time_form horizon done d t h =
    let n = bind_ok (count horizon d) _ t h in
    let ok = bind_ok (unless Order (nat_le (last_time done) n.0)) _ t n.2 in
    let e : n.0 ≡ t = ok_same n.0 t ok.2 in
    subst (IsTime horizon (last_time done)) e (record { by_horizon = count_small horizon d n.0 n.1; later = leb-true _ _ (unless_ok Order _ _ ok.1) })

or_ok : {A : Type 0} (k : _) (o : Option A) (x : A) → or k o ≡ Ok x → o ≡ Some x
or_ok k (Some y) x h = ap Some (ok_same y x h)
or_ok k None x h = cc

-- the place is that of an environment topic
record IsTopic (p : Tables) (k : ℕ) : Type 0 where
  info : TopicInfo
  is : At p.topics k info
  outside : info.outside ≡ true

topic_form : (p : Tables) (d : Data) (k : ℕ) → topic p d ≡ Ok k → IsTopic p k
unfolding topic
topic_form p d k h =
    let name = bind_ok (or WrongShape (as_str d)) _ k h in
    let place = or_ok Unknown (position (is_outside name.0) p.topics) k name.2 in
    go name.0 place (at_below p.topics k (below name.0 place))
  where
    below : (name : List ℕ) → position (is_outside name) p.topics ≡ Some k → k < length p.topics
    below name place = there p.topics place
      where
        there : (topics : List TopicInfo) → position (is_outside name) topics ≡ Some k → k < length topics
        there [] place = cc
        there (t ∷ ts) place = (position-Some (is_outside name) (t ∷ ts) k t place).0

    go : (name : List ℕ) → position (is_outside name) p.topics ≡ Some k → (t : TopicInfo) × At p.topics k t → IsTopic p k
    go name place t =
        let facts = position-Some (is_outside name) p.topics k t.0 place in
        let test = subst (λ s. is_outside name s ≡ true) (get_or_from_slice_get p.topics k t.0 t.0 t.1) facts.1 in
        record { info = t.0; is = t.1; outside = (and_parts t.0.outside (bytes_eq t.0.name name) test).0 }

ranges_len : {A : Type 0} (xs : List A) (n count : ℕ) → n + count ≤ length xs → length (take count (drop n xs)) ≡ count
ranges_len xs zero count le = length-take-le count xs (omega (arith, le))
ranges_len [] (suc n) count le = absurd (omega (arith, le))
ranges_len (x ∷ xs) (suc n) count le = ranges_len xs n count (omega (arith, le))

value_fits : (p : Tables) → MeetsTableRules p → (k : ℕ) (info : TopicInfo) → At p.topics k info → (zs : List ℤ) → AreInRanges (topic_ranges p k) zs
    → (length zs ≡ info.count) × ((i : ℕ) (z : ℤ) → At zs i z → IsIn (range_of p.scalars (info.first + i)) z)
value_fits p rules k info at zs inside =
    let ranges : topic_ranges p k ≡ ranges_of_topic p info =
    get_or_from_slice_get (map (ranges_of_topic p) p.topics) k (ranges_of_topic p info) [] (at_map (ranges_of_topic p) p.topics k info at) in
    let room : info.first + info.count ≤ length (scalar_ranges p) = omega (arith, topic_inside p rules k info at, ranges_count p) in
    let len = ranges_len (scalar_ranges p) info.first info.count room in
    let size : length zs ≡ info.count = inside.size ∙ ap length ranges ∙ len in (
      size,
      λ i z is.
          let lt : i < length (topic_ranges p k) = omega (arith, slice_get_within zs i z is, inside.size) in
          let r = at_below (topic_ranges p k) i lt in
          let here = dropped_at (scalar_ranges p) info.first i r.0 (kept info.count i r.0 (subst (λ l. At l i r.0) ranges r.1)) in
          subst (λ s. IsIn s z) (sym (get_or_from_slice_get (scalar_ranges p) (info.first + i) r.0 nought here)) (inside.each_in i z r.0 is r.1),
    )
  where
    kept : (n i : ℕ) (r : Side) → At (take n (drop info.first (scalar_ranges p))) i r → At (drop info.first (scalar_ranges p)) i r
    kept n i r h = from (drop info.first (scalar_ranges p)) n i r h
      where
        from : (xs : List Side) (n i : ℕ) (r : Side) → At (take n xs) i r → At xs i r
        from xs zero i r h = absurd (none-some r h)
        from [] (suc n) i r h = h
        from (y ∷ ys) (suc n) zero r h = h
        from (y ∷ ys) (suc n) (suc i) r h = from ys n i r h

    ranges_count : (q : Tables) → length (scalar_ranges q) ≡ length q.scalars
    ranges_count q = mapped q.scalars
      where
        mapped : (xs : List ScalarInfo) → length (map (λ i. let s : Side = record { lo = i.lo; hi = i.hi } in s) xs) ≡ length xs
        mapped [] = refl
        mapped (x ∷ xs) = ap suc (mapped xs)

record IsInputAfter (p : Tables) (horizon before : ℕ) (x : StatedInput) : Type 0 where
  fits : FitsInput p horizon x
  later : before ≤ x.at

input_form : (p : Tables) → MeetsTableRules p → (horizon : ℕ) (done : List StatedInput) (d : Data) (x : StatedInput) → input p horizon done d ≡ Ok x
    → IsInputAfter p horizon (last_time done) x
unfolding input
input_form p rules horizon done d x h =
    let ms = bind_ok (or WrongShape (as_object d)) _ x h in
    let t = bind_ok (at (codes "at") (time horizon done) ms.0) _ x ms.2 in
    let k = bind_ok (at (codes "topic") (topic p) ms.0) _ x t.2 in
    let v = bind_ok (at (codes "value") (numbers_in (topic_ranges p k.0)) ms.0) _ x k.2 in
    let ok = bind_ok (unless Unknown (all_among ms.0 (codes "at" ∷ codes "topic" ∷ codes "value" ∷ []))) _ x v.2 in
    let made : StatedInput = record { at = t.0; topic = k.0; value = v.0 } in
    let e : made ≡ x = ok_same made x ok.2 in
    let td = at_ok (codes "at") (time horizon done) ms.0 t.0 t.1 in
    let kd = at_ok (codes "topic") (topic p) ms.0 k.0 k.1 in
    let vd = at_ok (codes "value") (numbers_in (topic_ranges p k.0)) ms.0 v.0 v.1 in
    let timed = time_form horizon done td.0 t.0 td.1 in
    let there = topic_form p kd.0 k.0 kd.1 in
    let value = value_fits p rules k.0 there.info there.is v.0 (numbers_inside (topic_ranges p k.0) vd.0 v.0 vd.1) in
    subst (IsInputAfter p horizon (last_time done)) e (record {
      fits = record { in_time = timed.by_horizon; topic = there.info; is = there.is; outside = there.outside; size = value.0; typed = value.1 };
      later = timed.later;
    })

record AreInputs (p : Tables) (horizon : ℕ) (xs : List StatedInput) : Type 0 where
  fit : (i : ℕ) (x : StatedInput) → At xs i x → FitsInput p horizon x
  ordered : (i : ℕ) (x y : StatedInput) → At xs i x → At xs (suc i) y → x.at ≤ y.at

inputs_form : (p : Tables) → MeetsTableRules p → (horizon : ℕ) (d : Data) (xs : List StatedInput) → inputs p horizon d ≡ Ok xs → AreInputs p horizon xs
unfolding inputs
inputs_form p rules horizon d xs h =
    let ds = bind_ok (or WrongShape (as_array d)) _ xs h in
    let form = λ (i : ℕ) (x : StatedInput) (at : At xs i x).
    let e = read_at_place (input p horizon) ds.0 xs ds.2 i x at in
    input_form p rules horizon (take i xs) e.0 x e.1 in
    record {
      fit = λ i x at. (form i x at).fits;
      ordered = λ i x y at is. let later = (form (suc i) y is).later in omega (arith, later, last_taken xs i x at);
    }

-- ---- what drives disturbances

no_noise : (plant : PlantInfo) → has_noise plant ≡ false → plant.noise.items ≡ []
no_noise plant h = go plant.noise.items h
  where
    go : {A : Type 0} (xs : List A) → nat_lt 0 (length xs) ≡ false → xs ≡ []
    go [] e = refl
    go (x ∷ xs) e = (let some' = lt-ltb 0 (suc (length xs)) (omega arith) in cc)

-- an end is held at least once
hold_some : (d : Data) (n : ℕ) → hold d ≡ Ok n → 0 < n
unfolding hold
hold_some d n h =
    let x = bind_ok (count 100000 d) _ n h in
    let ok = bind_ok (unless OutsideRange (nat_lt 0 x.0)) _ n x.2 in
    subst (λ k. 0 < k) (ok_same x.0 n ok.2) (ltb-true _ _ (unless_ok OutsideRange _ _ ok.1))

sway_as_fits : (plant : PlantInfo) (ms : Members) (kind : SwayKind) (s : Sway) → sway_as plant ms kind ≡ Ok s → FitsSway plant s
unfolding sway_as
sway_as_fits plant ms sway_kinds.Low s h =
    let ok = bind_ok (unless Unknown (all_among ms (codes "kind" ∷ []))) _ s h in
    subst (FitsSway plant) (ok_same Low s ok.2) tt
sway_as_fits plant ms sway_kinds.High s h =
    let ok = bind_ok (unless Unknown (all_among ms (codes "kind" ∷ []))) _ s h in
    subst (FitsSway plant) (ok_same High s ok.2) tt
sway_as_fits plant ms sway_kinds.List s h =
    let rows = bind_ok (at (codes "values") (rows_in (bounds plant)) ms) _ s h in
    let ok = bind_ok (unless Unknown (all_among ms (codes "kind" ∷ codes "values" ∷ []))) _ s rows.2 in
    let d = at_ok (codes "values") (rows_in (bounds plant)) ms rows.0 rows.1 in
    subst (FitsSway plant) (ok_same (Listed rows.0) s ok.2) (rows_fit plant d.0 rows.0 d.1)
sway_as_fits plant ms sway_kinds.Seed s h =
    let seed = bind_ok (at (codes "seed") (count greatest) ms) _ s h in
    let stream = bind_ok (at (codes "stream") (count greatest) ms) _ s seed.2 in
    let ok = bind_ok (unless Unknown (all_among ms (codes "kind" ∷ codes "seed" ∷ codes "stream" ∷ []))) _ s stream.2 in
    let a = at_ok (codes "seed") (count greatest) ms seed.0 seed.1 in
    let b = at_ok (codes "stream") (count greatest) ms stream.0 stream.1 in
    subst (FitsSway plant) (ok_same (Drawn Anywhere seed.0 stream.0) s ok.2)
    (omega (arith, count_small greatest a.0 seed.0 a.1), omega (arith, count_small greatest b.0 stream.0 b.1), tt)
sway_as_fits plant ms sway_kinds.Edge s h =
    let held = bind_ok (at (codes "hold") hold ms) _ s h in
    let seed = bind_ok (at (codes "seed") (count greatest) ms) _ s held.2 in
    let stream = bind_ok (at (codes "stream") (count greatest) ms) _ s seed.2 in
    let ok = bind_ok (unless Unknown (all_among ms edge_keys)) _ s stream.2 in
    let c = at_ok (codes "hold") hold ms held.0 held.1 in
    let a = at_ok (codes "seed") (count greatest) ms seed.0 seed.1 in
    let b = at_ok (codes "stream") (count greatest) ms stream.0 stream.1 in
    subst (FitsSway plant) (ok_same (Drawn (Ends held.0) seed.0 stream.0) s ok.2)
    (omega (arith, count_small greatest a.0 seed.0 a.1), omega (arith, count_small greatest b.0 stream.0 b.1), hold_some c.0 held.0 c.1)

sway_fits : (plant : PlantInfo) (d : Data) (s : Sway) → sway plant d ≡ Ok s → FitsSway plant s
unfolding sway
sway_fits plant d s h =
    let ms = bind_ok (or WrongShape (as_object d)) _ s h in
    let kind = bind_ok (at (codes "kind") sway_kind ms.0) _ s ms.2 in
    sway_as_fits plant ms.0 kind.0 s kind.2

sway_at_fits : (ms : Members) (plant : PlantInfo) (s : Sway) → sway_at ms plant ≡ Ok s → FitsSway plant s
sway_at_fits ms plant s h = go (has_noise plant) refl
  where
    go : (b : Bool) → has_noise plant ≡ b → FitsSway plant s
    go true is =
        let said : at plant.name (sway plant) ms ≡ Ok s = rw is at h in
        let d = at_ok plant.name (sway plant) ms s said in
        sway_fits plant d.0 s d.1
    go false is =
        let said : told Still ≡ told s = rw is at h in
        subst (FitsSway plant) (ok_same Still s said) (no_noise plant is)

record AreSways (p : Tables) (ss : List Sway) : Type 0 where
  count_is : length ss ≡ length p.plants
  fit : (k : ℕ) (plant : PlantInfo) (s : Sway) → At p.plants k plant → At ss k s → FitsSway plant s

sways_form : (p : Tables) (d : Data) (ss : List Sway) → sways p d ≡ Ok ss → AreSways p ss
unfolding sways
sways_form p d ss h =
    let ms = bind_ok (or WrongShape (as_object d)) _ ss h in
    let f = λ (done : List Sway). sway_at ms.0 in
    let list = bind_ok (for_each_after f [] p.plants) _ ss ms.2 in
    let ok = bind_ok (unless Unknown (all_among ms.0 (plant_names (filter has_noise p.plants)))) _ ss list.2 in
    let found : for_each_after f [] p.plants ≡ Ok ss = list.1 ∙ ap Ok (ok_same list.0 ss ok.2) in
    record {
      count_is = omega (arith, found_len f [] p.plants ss found);
      fit = λ k plant s at is. sway_at_fits ms.0 plant s (found_at f p.plants ss found k plant s at is);
    }

-- ---- who drafts

-- a crew fits its node, and as a guest it is there and was not before
record IsCrewAfter (guests : ℕ) (done : List Crew) (node : NodeInfo) (c : Crew) : Type 0 where
  fits : FitsCrew node c
  there : (i : ℕ) → c ≡ Guest i → i < guests
  once : (i : ℕ) → c ≡ Guest i → list_any (is_guest i) done ≡ false

guest_same : (i j : ℕ) → Guest i ≡ Guest j → i ≡ j
guest_same i j e = cc

record IsGuestAfter (guests : ℕ) (done : List Crew) (i : ℕ) : Type 0 where
  there : i < guests
  once : list_any (is_guest i) done ≡ false

guest_form : (guests : ℕ) (done : List Crew) (d : Data) (i : ℕ) → guest guests done d ≡ Ok i → IsGuestAfter guests done i
unfolding guest
guest_form guests done d i h =
    let n = bind_ok (count greatest d) _ i h in
    let low = bind_ok (unless NoGuest (nat_lt n.0 guests)) _ i n.2 in
    let one = bind_ok (unless GuestTwice (not (list_any (is_guest n.0) done))) _ i low.2 in
    subst (IsGuestAfter guests done) (ok_same n.0 i one.2) (record
    { there = ltb-true _ _ (unless_ok NoGuest _ _ low.1); once = not-true _ (unless_ok GuestTwice _ _ one.1) })

crew_as_form : (guests : ℕ) (done : List Crew) (node : NodeInfo) (ms : Members) (kind : CrewKind) (c : Crew) → node.body ≡ None
    → crew_as guests done node ms kind ≡ Ok c → IsCrewAfter guests done node c
unfolding crew_as
crew_as_form guests done node ms crew_kinds.Script c external h =
    let rows = bind_ok (at (codes "drafts") (drafts (length node.writes.items)) ms) _ c h in
    let ok = bind_ok (unless Unknown (all_among ms (codes "kind" ∷ codes "drafts" ∷ []))) _ c rows.2 in
    let d = at_ok (codes "drafts") (drafts (length node.writes.items)) ms rows.0 rows.1 in
    let form = drafts_form (length node.writes.items) d.0 rows.0 d.1 in
    subst (IsCrewAfter guests done node) (ok_same (Script rows.0) c ok.2)
    (record { fits = (external, form.some_row, form.sizes); there = λ i e. cc; once = λ i e. cc })
crew_as_form guests done node ms crew_kinds.Wild c external h =
    let seed = bind_ok (at (codes "seed") (count greatest) ms) _ c h in
    let stream = bind_ok (at (codes "stream") (count greatest) ms) _ c seed.2 in
    let ok = bind_ok (unless Unknown (all_among ms (codes "kind" ∷ codes "seed" ∷ codes "stream" ∷ []))) _ c stream.2 in
    let a = at_ok (codes "seed") (count greatest) ms seed.0 seed.1 in
    let b = at_ok (codes "stream") (count greatest) ms stream.0 stream.1 in
    subst (IsCrewAfter guests done node) (ok_same (Wild Anywhere seed.0 stream.0) c ok.2)
    (record {
      fits = (external, omega (arith, count_small greatest a.0 seed.0 a.1), omega (arith, count_small greatest b.0 stream.0 b.1), tt);
      there = λ i e. cc;
      once = λ i e. cc;
    })
crew_as_form guests done node ms crew_kinds.Edge c external h =
    let held = bind_ok (at (codes "hold") hold ms) _ c h in
    let seed = bind_ok (at (codes "seed") (count greatest) ms) _ c held.2 in
    let stream = bind_ok (at (codes "stream") (count greatest) ms) _ c seed.2 in
    let ok = bind_ok (unless Unknown (all_among ms edge_keys)) _ c stream.2 in
    let e = at_ok (codes "hold") hold ms held.0 held.1 in
    let a = at_ok (codes "seed") (count greatest) ms seed.0 seed.1 in
    let b = at_ok (codes "stream") (count greatest) ms stream.0 stream.1 in
    subst (IsCrewAfter guests done node) (ok_same (Wild (Ends held.0) seed.0 stream.0) c ok.2)
    (record {
      fits = (
        external,
        omega (arith, count_small greatest a.0 seed.0 a.1),
        omega (arith, count_small greatest b.0 stream.0 b.1),
        hold_some e.0 held.0 e.1,
      );
      there = λ i e. cc;
      once = λ i e. cc;
    })
crew_as_form guests done node ms crew_kinds.Guest c external h =
    let n = bind_ok (at (codes "index") (guest guests done) ms) _ c h in
    let ok = bind_ok (unless Unknown (all_among ms (codes "kind" ∷ codes "index" ∷ []))) _ c n.2 in
    let d = at_ok (codes "index") (guest guests done) ms n.0 n.1 in
    let form = guest_form guests done d.0 n.0 d.1 in
    subst (IsCrewAfter guests done node) (ok_same (Guest n.0) c ok.2) (record {
      fits = external;
      there = λ i e. subst (λ j. j < guests) (guest_same n.0 i e) form.there;
      once = λ i e. subst (λ j. list_any (is_guest j) done ≡ false) (guest_same n.0 i e) form.once;
    })

crew_form : (guests : ℕ) (done : List Crew) (node : NodeInfo) (d : Data) (c : Crew) → node.body ≡ None → crew guests done node d ≡ Ok c
    → IsCrewAfter guests done node c
unfolding crew
crew_form guests done node d c external h =
    let ms = bind_ok (or WrongShape (as_object d)) _ c h in
    let kind = bind_ok (at (codes "kind") crew_kind ms.0) _ c ms.2 in
    crew_as_form guests done node ms.0 kind.0 c external kind.2

no_body : {A : Type 0} (o : Option A) → is_none o ≡ true → o ≡ None
no_body None h = refl
no_body (Some x) h = cc

some_body : {A : Type 0} (o : Option A) → is_none o ≡ false → (x : A) × (o ≡ Some x)
some_body None h = cc
some_body (Some x) h = (x, refl)

crew_at_form : (guests : ℕ) (ms : Members) (done : List Crew) (node : NodeInfo) (c : Crew) → crew_at guests ms done node ≡ Ok c → IsCrewAfter guests done node c
crew_at_form guests ms done node c h = go (is_external node) refl
  where
    go : (b : Bool) → is_external node ≡ b → IsCrewAfter guests done node c
    go true is =
        let said : at node.name (crew guests done node) ms ≡ Ok c = rw is at h in
        let d = at_ok node.name (crew guests done node) ms c said in
        crew_form guests done node d.0 c (no_body node.body is) d.1
    go false is =
        let said : told Coded ≡ told c = rw is at h in
        let body = some_body node.body is in
        subst (IsCrewAfter guests done node) (ok_same Coded c said)
        (record { fits = (body.0.items, (body.0, body.1, refl)); there = λ i e. cc; once = λ i e. cc })

record AreCrews (p : Tables) (guests : ℕ) (cs : List Crew) : Type 0 where
  count_is : length cs ≡ length p.nodes
  fit : (n : ℕ) (node : NodeInfo) (c : Crew) → At p.nodes n node → At cs n c → FitsCrew node c
  there : (n i : ℕ) → At cs n (Guest i) → i < guests
  once : (m n i : ℕ) → At cs m (Guest i) → At cs n (Guest i) → m ≡ n

any_guest_at : (cs : List Crew) (k i : ℕ) → At cs k (Guest i) → list_any (is_guest i) cs ≡ true
any_guest_at [] k i h = absurd (none-some (Guest i) h)
any_guest_at (c ∷ cs) zero i h = (let e = same_Some c (Guest i) h in rw e (rw (eq-eqb i i refl) refl))
any_guest_at (c ∷ cs) (suc k) i h = or_right (is_guest i c) _ (any_guest_at cs k i h)
  where
    or_right : (a b : Bool) → b ≡ true → (a || b) ≡ true
    or_right true b e = refl
    or_right false b e = e

crews_form : (p : Tables) (guests : ℕ) (d : Data) (cs : List Crew) → crews p guests d ≡ Ok cs → AreCrews p guests cs
unfolding crews
crews_form p guests d cs h =
    let ms = bind_ok (or WrongShape (as_object d)) _ cs h in
    let f = crew_at guests ms.0 in
    let list = bind_ok (for_each_after f [] p.nodes) _ cs ms.2 in
    let ok = bind_ok (unless Unknown (all_among ms.0 (node_names (filter is_external p.nodes)))) _ cs list.2 in
    let found : for_each_after f [] p.nodes ≡ Ok cs = list.1 ∙ ap Ok (ok_same list.0 cs ok.2) in
    let size : length cs ≡ length p.nodes = omega (arith, found_len f [] p.nodes cs found) in
    let form = λ (n : ℕ) (node : NodeInfo) (c : Crew) (at : At p.nodes n node) (is : At cs n c).
    crew_at_form guests ms.0 (take n cs) node c (found_at f p.nodes cs found n node c at is) in
    let node_at = λ (n : ℕ) (c : Crew) (is : At cs n c). below size n c is in
    let apart = λ (m n i : ℕ) (lt : m < n) (a : At cs m (Guest i)) (b : At cs n (Guest i)).
    let node = node_at n (Guest i) b in
    let never = (form n node.0 (Guest i) node.1 b).once i refl in
    let ever = any_guest_at (take n cs) m i (taken_at cs n m (Guest i) a lt) in
    differ (list_any (is_guest i) (take n cs)) ever never in
    record {
      count_is = size;
      fit = λ n node c at is. (form n node c at is).fits;
      there = λ n i is. let node = node_at n (Guest i) is in (form n node.0 (Guest i) node.1 is).there i refl;
      once =
          λ m n i a b. ⊎_elim (λ lt. absurd (apart m n i lt a b))
          (λ le. ⊎_elim (λ lt. absurd (apart n m i lt b a)) (λ le2. omega (arith, le, le2)) (cases_lt n m)) (cases_lt m n);
    }
  where
    below : length cs ≡ length p.nodes → (n : ℕ) (c : Crew) → At cs n c → (node : NodeInfo) × At p.nodes n node
    below size n c is = (let lt : n < length p.nodes = omega (arith, size, slice_get_within cs n c is) in at_below p.nodes n lt)

    differ : (b : Bool) → b ≡ true → b ≡ false → ⊥
    differ b yes' no' = cc

-- ---- the whole

-- a reader that gives what is said gives what is true of all that is said
pub if_gives : {A : Type 0} (Q : A → Type 0) (r : Result A JsonFail) (says : Says A) → Gives (λ x. x) r says → ((x : A) → says ≡ Ok x → Q x) → IfOk r Q
if_gives Q (Ok x) says h all = all x h
if_gives Q (Err e) says h all = tt

pub flight_fits : (p : Tables) → MeetsTableRules p → (guests : ℕ) (d : Data) (f : Plan) → flight p guests d ≡ Ok f → FitsFlight p guests f
unfolding flight counted
flight_fits p rules guests d f h =
    let ms = bind_ok (or WrongShape (as_object d)) _ f h in
    let one = bind_ok (at (codes "format") (whole (pos 1) (pos 1)) ms.0) _ f ms.2 in
    let horizon = bind_ok (at (codes "horizon") (count 100000) ms.0) _ f one.2 in
    let points = bind_ok (at (codes "start") (start p) ms.0) _ f horizon.2 in
    let given = bind_ok (at (codes "inputs") (inputs p horizon.0) ms.0) _ f points.2 in
    let swayed = bind_ok (at (codes "sway") (sways p) ms.0) _ f given.2 in
    let crewed = bind_ok (at (codes "crew") (crews p guests) ms.0) _ f swayed.2 in
    let ok = bind_ok (unless Unknown (all_among ms.0 flight_keys)) _ f crewed.2 in
    let few = bind_ok (unless TooManyEvents (nat_le (events_of p horizon.0 given.0) 200000)) _ f ok.2 in
    let fine = bind_ok (unless TooManyNumbers (nat_le (numbers_of p horizon.0 given.0) 1000000)) _ f few.2 in
    let made : Plan = record {
      horizon = horizon.0;
      start = points.0;
      inputs = given.0;
      sways = swayed.0;
      crews = crewed.0;
      events = events_of p horizon.0 given.0;
      numbers = numbers_of p horizon.0 given.0;
    } in
    let hd = at_ok (codes "horizon") (count 100000) ms.0 horizon.0 horizon.1 in
    let pd = at_ok (codes "start") (start p) ms.0 points.0 points.1 in
    let id = at_ok (codes "inputs") (inputs p horizon.0) ms.0 given.0 given.1 in
    let sd = at_ok (codes "sway") (sways p) ms.0 swayed.0 swayed.1 in
    let cd = at_ok (codes "crew") (crews p guests) ms.0 crewed.0 crewed.1 in
    let starts = start_form p pd.0 points.0 pd.1 in
    let coming = inputs_form p rules horizon.0 id.0 given.0 id.1 in
    let driven = sways_form p sd.0 swayed.0 sd.1 in
    let drafted = crews_form p guests cd.0 crewed.0 cd.1 in
    subst (FitsFlight p guests) (ok_same made f fine.2) (record {
      horizon = count_small 100000 hd.0 horizon.0 hd.1;
      starts = starts.count_is;
      widths = starts.widths;
      inputs = coming.fit;
      ordered = coming.ordered;
      sways = driven.count_is;
      swayed = driven.fit;
      crews = drafted.count_is;
      crewed = drafted.fit;
      guests_there = drafted.there;
      guests_once = drafted.once;
      events = refl;
      few_events = leb-true _ _ (unless_ok TooManyEvents _ _ few.1);
      numbers = refl;
      few_numbers = leb-true _ _ (unless_ok TooManyNumbers _ _ fine.1);
    })
