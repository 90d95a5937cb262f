-- A flight's text says the same of tables that look the same: it is read by topics and scalars, by names, widths and bounds of plants, and
-- by names, times and outputs of nodes.
use Rattle.std.proofs.Common.{◌≡◌, ℕ, ◌+◌, ◌*◌, Bool, true, false, List, [], ◌∷◌, ◌++◌, map, length, codes, Option, None, Some, Ok, refl, sym, ap, ◌∙◌, nat_lt}
use Rattle.std.proofs.Common.{nat_le, pos}
use Rattle.std.specs.Prelude.{filter, is_none, position, slice_index_or, if◌then◌else◌, option_map}
use Rattle.serde_json.specs.Data.{Data, Members}
use Rattle.serde_json.specs.Find.{as_object, as_array, as_str}
use Rattle.sot_box.specs.Sides.{Side}
use Rattle.sot_lang.specs.declared.tables.PlantInfo.{PlantInfo}
use Rattle.sot_lang.specs.declared.tables.NodeInfo.{NodeInfo}
use Rattle.sot_lang.specs.Tables.{Tables}
use Rattle.sot_lang.specs.Ranges.{bounds}
use Rattle.sot_json.specs.declared.fault.JsonKind.TheVariants.{NotJson, WrongShape, Unknown, TooManyEvents, TooManyNumbers}
use Rattle.sot_json.specs.Says.{Says, ◌>>=◌, or, unless}
use Rattle.sot_json.specs.Json.{json_of, whole, count, each_after, at, all_among}
use Rattle.sot_flight.specs.declared.sway.SwayKind.{SwayKind}
use Rattle.sot_flight.specs.declared.sway.SwayKind.TheVariants as sway_kinds
use Rattle.sot_flight.specs.declared.crew.CrewKind.{CrewKind}
use Rattle.sot_flight.specs.declared.crew.CrewKind.TheVariants as crew_kinds
use Rattle.sot_flight.specs.Plans.{StatedInput, Sway, Still, Listed, Crew, Coded, Script}
use Rattle.sot_flight.specs.Counts.{due_count, firing_count, decision_count, events_of, tick_numbers, draft_numbers, input_numbers, numbers_of}
use Rattle.sot_flight.specs.ListForms.{numbers, numbers_in, rows_in, drafts, for_each_after}
use Rattle.sot_flight.specs.FlightFormat.{point_at, plant_names, start, time, is_outside, topic, ranges_of_topic, topic_ranges, input, inputs, sway_kind}
use Rattle.sot_flight.specs.FlightFormat.{sway_as, sway, has_noise, sway_at, sways, crew_kind, crew_as, crew, is_external, crew_at, node_names, crews}
use Rattle.sot_flight.specs.FlightFormat.{flight_keys, counted, flight}
use Rattle.sot_typing.specs.Resolved.{PlantTable, NodeTable, ProgramTables, plant_seen, node_seen, tables_seen}
use Rattle.sot_law_equal_tables.specs.Laws.{FlightsAlike}
use Rattle.sot_law_equal_tables.proofs.Seen.{scalars_same, modules_same, plants_seen_same, nodes_seen_same}

-- what is read for each of two lists whose items look the same
each_alike :
    {X S A : Type 0} (view : X → S) (f g : List A → X → Says A) → ((x y : X) → view x ≡ view y → (done : List A) → f done x ≡ g done y)
    → (xs ys : List X) → map view xs ≡ map view ys → (done : List A) → for_each_after f done xs ≡ for_each_after g done ys
unfolding for_each_after
each_alike view f g same [] [] e done = refl
each_alike view f g same [] (y ∷ ys) e done = absurd cc
each_alike view f g same (x ∷ xs) [] e done = absurd cc
each_alike view f g same (x ∷ xs) (y ∷ ys) e done =
    let heads : view x ≡ view y = cc in
    let tails : map view xs ≡ map view ys = cc in
    λ i. do
      z ← same x y heads done i
      each_alike view f g same xs ys tails (done ++ z ∷ []) i

-- names of those that pass a test
picked_alike :
    {X S : Type 0} (view : X → S) (test : X → Bool) (seen : S → Bool) (name : X → List ℕ) (called : S → List ℕ) → ((x : X) → test x ≡ seen (view x))
    → ((x : X) → name x ≡ called (view x))
    → (xs : List X) → map name (filter test xs) ≡ map called (filter seen (map view xs))
picked_alike view test seen name called tests names [] = refl
picked_alike view test seen name called tests names (x ∷ xs) =
    one (picked_alike view test seen name called tests names xs) (test x) (seen (view x)) refl refl (tests x)
  where
    one : map name (filter test xs) ≡ map called (filter seen (map view xs)) → (a b : Bool) → test x ≡ a → seen (view x) ≡ b → test x ≡ seen (view x)
        → map name (filter test (x ∷ xs)) ≡ map called (filter seen (view x ∷ map view xs))
    one rest true true is is' e = rw (is, is') (λ i. names x i ∷ rest i)
    one rest false false is is' e = rw (is, is') rest
    one rest true false is is' e = absurd (let f : true ≡ false = sym is ∙ e ∙ is' in cc)
    one rest false true is is' e = absurd (let f : false ≡ true = sym is ∙ e ∙ is' in cc)

-- ---- plants

module _ (x y : PlantInfo) (same : plant_seen x ≡ plant_seen y) where
  name_same : x.name ≡ y.name
  name_same = ap (λ (s : PlantTable). s.name) same

  point_same : (ms : Members) → point_at ms x ≡ point_at ms y
  point_same ms = ap (λ (s : PlantTable). at s.name (numbers (length s.states)) ms) same

  bounds_same : bounds x ≡ bounds y
  bounds_same = ap (λ (s : PlantTable). map (λ d. let r : Side = record { lo = d.lo; hi = d.hi } in r) s.noise) same

  sway_as_same : (ms : Members) (kind : SwayKind) → sway_as x ms kind ≡ sway_as y ms kind
  unfolding sway_as
  sway_as_same ms sway_kinds.Low = refl
  sway_as_same ms sway_kinds.High = refl
  sway_as_same ms sway_kinds.List = λ i. do
    rows ← at (codes "values") (rows_in (bounds_same i)) ms
    ok ← unless Unknown (all_among ms (codes "kind" ∷ codes "values" ∷ []))
    Ok (Listed rows)
  sway_as_same ms sway_kinds.Seed = refl
  sway_as_same ms sway_kinds.Edge = refl

  sway_same : (d : Data) → sway x d ≡ sway y d
  unfolding sway
  sway_same d = λ i. do
    ms ← or WrongShape (as_object d)
    kind ← at (codes "kind") sway_kind ms
    sway_as_same ms kind i

  noise_same : has_noise x ≡ has_noise y
  noise_same = ap (λ (s : PlantTable). nat_lt 0 (length s.noise)) same

  sway_at_same : (ms : Members) → sway_at ms x ≡ sway_at ms y
  sway_at_same ms = λ i. if noise_same i then at (name_same i) (λ d. sway_same d i) ms else Ok Still

-- ---- nodes

none_mapped : {A B : Type 0} (f : A → B) (o : Option A) → is_none o ≡ is_none (option_map f o)
none_mapped f None = refl
none_mapped f (Some a) = refl

module _ (x y : NodeInfo) (same : node_seen x ≡ node_seen y) where
  node_name_same : x.name ≡ y.name
  node_name_same = ap (λ (s : NodeTable). s.name) same

  external_same : is_external x ≡ is_external y
  external_same = none_mapped _ x.body ∙ ap (λ (s : NodeTable). is_none s.body) same ∙ sym (none_mapped _ y.body)

  writes_same : length x.writes.items ≡ length y.writes.items
  writes_same = ap (λ (s : NodeTable). length s.writes) same

  crew_as_same : (guests : ℕ) (done : List Crew) (ms : Members) (kind : CrewKind) → crew_as guests done x ms kind ≡ crew_as guests done y ms kind
  unfolding crew_as
  crew_as_same guests done ms crew_kinds.Script = λ i. do
    rows ← at (codes "drafts") (drafts (writes_same i)) ms
    ok ← unless Unknown (all_among ms (codes "kind" ∷ codes "drafts" ∷ []))
    Ok (Script rows)
  crew_as_same guests done ms crew_kinds.Wild = refl
  crew_as_same guests done ms crew_kinds.Edge = refl
  crew_as_same guests done ms crew_kinds.Guest = refl

  crew_same : (guests : ℕ) (done : List Crew) (d : Data) → crew guests done x d ≡ crew guests done y d
  unfolding crew
  crew_same guests done d = λ i. do
    ms ← or WrongShape (as_object d)
    kind ← at (codes "kind") crew_kind ms
    crew_as_same guests done ms kind i

  crew_at_same : (guests : ℕ) (ms : Members) (done : List Crew) → crew_at guests ms done x ≡ crew_at guests ms done y
  crew_at_same guests ms done = λ i. if external_same i then at (node_name_same i) (λ d. crew_same guests done d i) ms else Ok Coded

-- ---- counts

abbrev firing_seen : ℕ → List NodeTable → ℕ
firing_seen h [] = 0
firing_seen h (n ∷ ns) = due_count n.period n.offset h + firing_seen h ns

firing_is : (h : ℕ) (ns : List NodeInfo) → firing_count h ns ≡ firing_seen h (map node_seen ns)
firing_is h [] = refl
firing_is h (n ∷ ns) = ap (λ c. due_count n.period n.offset h + c) (firing_is h ns)

abbrev draft_seen : ℕ → List NodeTable → ℕ
draft_seen h [] = 0
draft_seen h (n ∷ ns) = due_count n.period n.offset h * length n.writes + draft_seen h ns

draft_is : (h : ℕ) (ns : List NodeInfo) → draft_numbers h ns ≡ draft_seen h (map node_seen ns)
draft_is h [] = refl
draft_is h (n ∷ ns) = ap (λ c. due_count n.period n.offset h * length n.writes.items + c) (draft_is h ns)

abbrev tick_seen : List PlantTable → ℕ
tick_seen [] = 0
tick_seen (k ∷ ks) = length k.noise + length k.states + tick_seen ks

tick_is : (ks : List PlantInfo) → tick_numbers ks ≡ tick_seen (map plant_seen ks)
tick_is [] = refl
tick_is (k ∷ ks) = ap (λ c. length k.noise.items + length k.states.items + c) (tick_is ks)

-- ---- the whole

module _ (t u : Tables) (same : tables_seen t ≡ tables_seen u) where
  topics_same : t.topics ≡ u.topics
  topics_same = ap (λ (s : ProgramTables). s.topics) same

  plant_names_same : plant_names t.plants ≡ plant_names u.plants
  plant_names_same = seen t.plants ∙ ap (map (λ (s : PlantTable). s.name)) (plants_seen_same t u same) ∙ sym (seen u.plants)
    where
      seen : (ks : List PlantInfo) → plant_names ks ≡ map (λ (s : PlantTable). s.name) (map plant_seen ks)
      seen [] = refl
      seen (k ∷ ks) = ap (λ ns. k.name ∷ ns) (seen ks)

  start_same : (d : Data) → start t d ≡ start u d
  unfolding start
  start_same d = λ i. do
    ms ← or WrongShape (as_object d)
    points ← each_alike plant_seen (λ done. point_at ms) (λ done. point_at ms) (λ x y e done. point_same x y e ms) t.plants u.plants (plants_seen_same t u same)
        [] i
    ok ← unless Unknown (all_among ms (plant_names_same i))
    Ok points

  topic_same : (d : Data) → topic t d ≡ topic u d
  unfolding topic
  topic_same d = λ i. do
    name ← or WrongShape (as_str d)
    or Unknown (position (is_outside name) (topics_same i))

  ranges_same : (k : ℕ) → topic_ranges t k ≡ topic_ranges u k
  ranges_same k = λ i. slice_index_or (map (ranges_of_topic (record t { scalars = scalars_same t u same i })) (topics_same i)) k []

  input_same : (h : ℕ) (done : List StatedInput) (d : Data) → input t h done d ≡ input u h done d
  unfolding input
  input_same h done d = λ i. do
    ms ← or WrongShape (as_object d)
    s ← at (codes "at") (time h done) ms
    k ← at (codes "topic") (λ e. topic_same e i) ms
    value ← at (codes "value") (numbers_in (ranges_same k i)) ms
    ok ← unless Unknown (all_among ms (codes "at" ∷ codes "topic" ∷ codes "value" ∷ []))
    Ok (record { at = s; topic = k; value = value })

  inputs_same : (h : ℕ) (d : Data) → inputs t h d ≡ inputs u h d
  unfolding inputs
  inputs_same h d = λ i. do
    ds ← or WrongShape (as_array d)
    each_after (λ done e. input_same h done e i) [] ds

  noisy_same : plant_names (filter has_noise t.plants) ≡ plant_names (filter has_noise u.plants)
  noisy_same =
      seen t.plants ∙ ap (λ ss. map (λ (s : PlantTable). s.name) (filter (λ (s : PlantTable). nat_lt 0 (length s.noise)) ss)) (plants_seen_same t u same)
      ∙ sym (seen u.plants)
    where
      seen : (ks : List PlantInfo) → plant_names (filter has_noise ks)
          ≡ map (λ (s : PlantTable). s.name) (filter (λ (s : PlantTable). nat_lt 0 (length s.noise)) (map plant_seen ks))
      seen =
          picked_alike plant_seen has_noise (λ (s : PlantTable). nat_lt 0 (length s.noise)) (λ k. k.name) (λ (s : PlantTable). s.name) (λ x. refl) (λ x. refl)

  sways_same : (d : Data) → sways t d ≡ sways u d
  unfolding sways
  sways_same d = λ i. do
    ms ← or WrongShape (as_object d)
    found ← each_alike plant_seen (λ done. sway_at ms) (λ done. sway_at ms) (λ x y e done. sway_at_same x y e ms) t.plants u.plants (plants_seen_same t u same)
        [] i
    ok ← unless Unknown (all_among ms (noisy_same i))
    Ok found

  flown_same : node_names (filter is_external t.nodes) ≡ node_names (filter is_external u.nodes)
  flown_same =
      seen t.nodes ∙ ap (λ ss. map (λ (s : NodeTable). s.name) (filter (λ (s : NodeTable). is_none s.body) ss)) (nodes_seen_same t u same) ∙ sym (seen u.nodes)
    where
      seen : (ns : List NodeInfo) → node_names (filter is_external ns)
          ≡ map (λ (s : NodeTable). s.name) (filter (λ (s : NodeTable). is_none s.body) (map node_seen ns))
      seen =
          picked_alike node_seen is_external (λ (s : NodeTable). is_none s.body) (λ n. n.name) (λ (s : NodeTable). s.name) (λ x. none_mapped _ x.body)
          (λ x. refl)

  crews_same : (guests : ℕ) (d : Data) → crews t guests d ≡ crews u guests d
  unfolding crews
  crews_same guests d = λ i. do
    ms ← or WrongShape (as_object d)
    found ← each_alike node_seen (crew_at guests ms) (crew_at guests ms) (λ x y e done. crew_at_same x y e guests ms done) t.nodes u.nodes
        (nodes_seen_same t u same) [] i
    ok ← unless Unknown (all_among ms (flown_same i))
    Ok found

  events_same : (h : ℕ) (given : List StatedInput) → events_of t h given ≡ events_of u h given
  events_same h given =
      let nodes : firing_count h t.nodes ≡ firing_count h u.nodes = firing_is h t.nodes ∙ ap (firing_seen h) (nodes_seen_same t u same)
      ∙ sym (firing_is h u.nodes) in
      λ i. nodes i + decision_count h (modules_same t u same i) + length given + h

  numbers_same : (h : ℕ) (given : List StatedInput) → numbers_of t h given ≡ numbers_of u h given
  numbers_same h given =
      let ticks : tick_numbers t.plants ≡ tick_numbers u.plants = tick_is t.plants ∙ ap tick_seen (plants_seen_same t u same) ∙ sym (tick_is u.plants) in
      let drafted : draft_numbers h t.nodes ≡ draft_numbers h u.nodes = draft_is h t.nodes ∙ ap (draft_seen h) (nodes_seen_same t u same)
      ∙ sym (draft_is h u.nodes) in
      λ i. h * ticks i + drafted i + input_numbers given

  counted_same : (h : ℕ) (points : List (List _)) (given : List StatedInput) (swayed : List Sway) (crewed : List Crew)
      → counted t h points given swayed crewed ≡ counted u h points given swayed crewed
  unfolding counted
  counted_same h points given swayed crewed = λ i. do
    few_events ← unless TooManyEvents (nat_le (events_same h given i) 200000)
    few_numbers ← unless TooManyNumbers (nat_le (numbers_same h given i) 1000000)
    Ok (record {
      horizon = h;
      start = points;
      inputs = given;
      sways = swayed;
      crews = crewed;
      events = events_same h given i;
      numbers = numbers_same h given i;
    })

  flight_same : (guests : ℕ) (d : Data) → flight t guests d ≡ flight u guests d
  unfolding flight
  flight_same guests d = λ i. do
    ms ← or WrongShape (as_object d)
    one ← at (codes "format") (whole (pos 1) (pos 1)) ms
    h ← at (codes "horizon") (count 100000) ms
    points ← at (codes "start") (λ e. start_same e i) ms
    given ← at (codes "inputs") (λ e. inputs_same h e i) ms
    swayed ← at (codes "sway") (λ e. sways_same e i) ms
    crewed ← at (codes "crew") (λ e. crews_same guests e i) ms
    ok ← unless Unknown (all_among ms flight_keys)
    counted_same h points given swayed crewed i

pub flights_alike : FlightsAlike
flights_alike t u guests bytes same = λ i. or NotJson (json_of bytes) >>= λ d. flight_same t u same guests d i
