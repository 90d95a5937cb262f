-- What a flight's JSON says of a program, or its first fault: one definition for each value of the
-- format, in its order.
use Rattle.std.specs.Prelude.{ℕ, ℤ, pos, List, [], ◌∷◌, length, codes, Bool, false, not, ◌&&◌, ◌==◌}
use Rattle.std.specs.Prelude.{nat_lt, nat_le, bytes_eq, Option, Some, None, Ok, map, take, drop}
use Rattle.std.specs.Prelude.{filter, position, slice_index_or, is_none, if◌then◌else◌}
use Rattle.std.specs.List.{list_any}
use Rattle.serde_json.specs.Data.{Data, Members}
use Rattle.serde_json.specs.Find.{as_array, as_object, as_str}
use Rattle.sot_box.specs.Sides.{Side}
use Rattle.sot_lang.specs.declared.tables.TopicInfo.{TopicInfo}
use Rattle.sot_lang.specs.declared.tables.PlantInfo.{PlantInfo}
use Rattle.sot_lang.specs.declared.tables.NodeInfo.{NodeInfo}
use Rattle.sot_lang.specs.Tables.{Tables}
use Rattle.sot_lang.specs.Ranges.{bounds, scalar_ranges}
use Rattle.sot_json.specs.declared.fault.JsonKind.TheVariants.{NotJson, WrongShape, Unknown, Order}
use Rattle.sot_json.specs.declared.fault.JsonKind.TheVariants.{NoGuest, GuestTwice, TooManyEvents}
use Rattle.sot_json.specs.declared.fault.JsonKind.TheVariants.{TooManyNumbers, OutsideRange}
use Rattle.sot_json.specs.Says.{Says, ◌>>=◌, or, unless}
use Rattle.sot_json.specs.Json.{json_of, whole, count, each_after, at, all_among}
use Rattle.sot_flight.specs.declared.sway.SwayKind.{SwayKind}
use Rattle.sot_flight.specs.declared.sway.SwayKind.TheVariants as sway_kinds
use Rattle.sot_flight.specs.declared.crew.CrewKind.{CrewKind}
use Rattle.sot_flight.specs.declared.crew.CrewKind.TheVariants as crew_kinds
use Rattle.sot_flight.specs.declared.spread.Spread.TheVariants.{Anywhere, Ends}
use Rattle.sot_flight.specs.Plans.{StatedInput, Plan, Sway, Still, Low, High, Listed, Drawn, Crew}
use Rattle.sot_flight.specs.Plans.{Coded, Script, Wild, Guest}
use Rattle.sot_flight.specs.Counts.{events_of, numbers_of}
use Rattle.sot_flight.specs.ListForms.{numbers_in, numbers, rows_in, drafts, for_each_after}

-- the greatest number of a format
abbrev pub greatest : ℕ
greatest = 1000000000000

-- ---- where the plants start

-- the numbers of a plant's state variables, under its name
abbrev pub point_at : Members → PlantInfo → Says (List ℤ)
point_at ms plant = at plant.name (numbers (length plant.states.items)) ms

abbrev pub plant_names : List PlantInfo → List (List ℕ)
plant_names plants = map (λ k. k.name) plants

-- an object of points, one for each plant, and of nothing else
unfoldable pub start : Tables → Data → Says (List (List ℤ))
start p d = do
  ms ← or WrongShape (as_object d)
  points ← for_each_after (λ done. point_at ms) [] p.plants
  ok ← unless Unknown (all_among ms (plant_names p.plants))
  Ok points

-- ---- inputs

-- the time of the last input before, or 0
abbrev pub last_time : List StatedInput → ℕ
last_time [] = 0
last_time (x ∷ []) = x.at
last_time (x ∷ y ∷ xs) = last_time (y ∷ xs)

-- a time up to the horizon, not below that of the input before
unfoldable pub time : ℕ → List StatedInput → Data → Says ℕ
time horizon done d = do
  t ← count horizon d
  ok ← unless Order (nat_le (last_time done) t)
  Ok t

-- whether this is the environment topic of that name
abbrev pub is_outside : List ℕ → TopicInfo → Bool
is_outside name topic = topic.outside && bytes_eq topic.name name

-- the name of an environment topic, as the topic's place
unfoldable pub topic : Tables → Data → Says ℕ
topic p d = do
  name ← or WrongShape (as_str d)
  or Unknown (position (is_outside name) p.topics)

-- the ranges of a topic's scalars
abbrev pub ranges_of_topic : Tables → TopicInfo → List Side
ranges_of_topic p topic = take topic.count (drop topic.first (scalar_ranges p))

-- the ranges of the scalars of the topic at a place
abbrev pub topic_ranges : Tables → ℕ → List Side
topic_ranges p k = slice_index_or (map (ranges_of_topic p) p.topics) k []

-- an input: an object of its time, its topic and a number for each of the topic's scalars
unfoldable pub input : Tables → ℕ → List StatedInput → Data → Says StatedInput
input p horizon done d = do
  ms ← or WrongShape (as_object d)
  t ← at (codes "at") (time horizon done) ms
  k ← at (codes "topic") (topic p) ms
  value ← at (codes "value") (numbers_in (topic_ranges p k)) ms
  ok ← unless Unknown (all_among ms (codes "at" ∷ codes "topic" ∷ codes "value" ∷ []))
  Ok (record { at = t; topic = k; value = value })

-- a list of inputs
unfoldable pub inputs : Tables → ℕ → Data → Says (List StatedInput)
inputs p horizon d = do
  ds ← or WrongShape (as_array d)
  each_after (input p horizon) [] ds

-- ---- what drives disturbances

-- for how many ticks, or firings, an end is held
unfoldable pub hold : Data → Says ℕ
hold d = do
  n ← count 100000 d
  some ← unless OutsideRange (nat_lt 0 n)
  Ok n

abbrev pub sway_kind_of : List ℕ → Option SwayKind
sway_kind_of s =
    if bytes_eq s (codes "low") then Some sway_kinds.Low
    else (if bytes_eq s (codes "high") then Some sway_kinds.High
    else (if bytes_eq s (codes "list") then Some sway_kinds.List
    else (if bytes_eq s (codes "seed") then Some sway_kinds.Seed
    else (if bytes_eq s (codes "edge") then Some sway_kinds.Edge else None))))

-- one of the words for the kinds of sways
unfoldable pub sway_kind : Data → Says SwayKind
sway_kind d = do
  s ← or WrongShape (as_str d)
  or WrongShape (sway_kind_of s)

-- the keys of a sway, or of a crew, whose words stand for ends
abbrev pub edge_keys : List (List ℕ)
edge_keys = codes "kind" ∷ codes "hold" ∷ codes "seed" ∷ codes "stream" ∷ []

-- what a sway of that kind says beside its kind
unfoldable pub sway_as : PlantInfo → Members → SwayKind → Says Sway
sway_as plant ms sway_kinds.Low = do
  ok ← unless Unknown (all_among ms (codes "kind" ∷ []))
  Ok Low
sway_as plant ms sway_kinds.High = do
  ok ← unless Unknown (all_among ms (codes "kind" ∷ []))
  Ok High
sway_as plant ms sway_kinds.List = do
  rows ← at (codes "values") (rows_in (bounds plant)) ms
  ok ← unless Unknown (all_among ms (codes "kind" ∷ codes "values" ∷ []))
  Ok (Listed rows)
sway_as plant ms sway_kinds.Seed = do
  seed ← at (codes "seed") (count greatest) ms
  stream ← at (codes "stream") (count greatest) ms
  ok ← unless Unknown (all_among ms (codes "kind" ∷ codes "seed" ∷ codes "stream" ∷ []))
  Ok (Drawn Anywhere seed stream)
sway_as plant ms sway_kinds.Edge = do
  held ← at (codes "hold") hold ms
  seed ← at (codes "seed") (count greatest) ms
  stream ← at (codes "stream") (count greatest) ms
  ok ← unless Unknown (all_among ms edge_keys)
  Ok (Drawn (Ends held) seed stream)

-- a sway: an object with its kind
unfoldable pub sway : PlantInfo → Data → Says Sway
sway plant d = do
  ms ← or WrongShape (as_object d)
  kind ← at (codes "kind") sway_kind ms
  sway_as plant ms kind

abbrev pub has_noise : PlantInfo → Bool
has_noise plant = nat_lt 0 (length plant.noise.items)

-- the sway of a plant with disturbances, under its name; any other one is still
abbrev pub sway_at : Members → PlantInfo → Says Sway
sway_at ms plant = if has_noise plant then at plant.name (sway plant) ms else Ok Still

-- an object of sways, one for each plant with disturbances, and of nothing else
unfoldable pub sways : Tables → Data → Says (List Sway)
sways p d = do
  ms ← or WrongShape (as_object d)
  found ← for_each_after (λ done. sway_at ms) [] p.plants
  ok ← unless Unknown (all_among ms (plant_names (filter has_noise p.plants)))
  Ok found

-- ---- who drafts

abbrev pub crew_kind_of : List ℕ → Option CrewKind
crew_kind_of s =
    if bytes_eq s (codes "script") then Some crew_kinds.Script
    else (if bytes_eq s (codes "wild") then Some crew_kinds.Wild
    else (if bytes_eq s (codes "edge") then Some crew_kinds.Edge
    else (if bytes_eq s (codes "guest") then Some crew_kinds.Guest else None)))

-- one of the words for the kinds of crews
unfoldable pub crew_kind : Data → Says CrewKind
crew_kind d = do
  s ← or WrongShape (as_str d)
  or WrongShape (crew_kind_of s)

abbrev pub is_guest : ℕ → Crew → Bool
is_guest i Coded = false
is_guest i (Script drafts) = false
is_guest i (Wild spread seed stream) = false
is_guest i (Guest j) = j == i

-- the number of a guest, below the count of guests, that stands at no earlier node
unfoldable pub guest : ℕ → List Crew → Data → Says ℕ
guest guests done d = do
  i ← count greatest d
  there ← unless NoGuest (nat_lt i guests)
  once ← unless GuestTwice (not (list_any (is_guest i) done))
  Ok i

-- what a crew of that kind says beside its kind
unfoldable pub crew_as : ℕ → List Crew → NodeInfo → Members → CrewKind → Says Crew
crew_as guests done node ms crew_kinds.Script = do
  rows ← at (codes "drafts") (drafts (length node.writes.items)) ms
  ok ← unless Unknown (all_among ms (codes "kind" ∷ codes "drafts" ∷ []))
  Ok (Script rows)
crew_as guests done node ms crew_kinds.Wild = do
  seed ← at (codes "seed") (count greatest) ms
  stream ← at (codes "stream") (count greatest) ms
  ok ← unless Unknown (all_among ms (codes "kind" ∷ codes "seed" ∷ codes "stream" ∷ []))
  Ok (Wild Anywhere seed stream)
crew_as guests done node ms crew_kinds.Edge = do
  held ← at (codes "hold") hold ms
  seed ← at (codes "seed") (count greatest) ms
  stream ← at (codes "stream") (count greatest) ms
  ok ← unless Unknown (all_among ms edge_keys)
  Ok (Wild (Ends held) seed stream)
crew_as guests done node ms crew_kinds.Guest = do
  i ← at (codes "index") (guest guests done) ms
  ok ← unless Unknown (all_among ms (codes "kind" ∷ codes "index" ∷ []))
  Ok (Guest i)

-- a crew: an object with its kind
unfoldable pub crew : ℕ → List Crew → NodeInfo → Data → Says Crew
crew guests done node d = do
  ms ← or WrongShape (as_object d)
  kind ← at (codes "kind") crew_kind ms
  crew_as guests done node ms kind

abbrev pub is_external : NodeInfo → Bool
is_external node = is_none node.body

-- the crew of an external node, under its name; any other one is coded
abbrev pub crew_at : ℕ → Members → List Crew → NodeInfo → Says Crew
crew_at guests ms done node =
    if is_external node then at node.name (crew guests done node) ms else Ok Coded

abbrev pub node_names : List NodeInfo → List (List ℕ)
node_names nodes = map (λ n. n.name) nodes

-- an object of crews, one for each external node, and of nothing else
unfoldable pub crews : Tables → ℕ → Data → Says (List Crew)
crews p guests d = do
  ms ← or WrongShape (as_object d)
  found ← for_each_after (crew_at guests ms) [] p.nodes
  ok ← unless Unknown (all_among ms (node_names (filter is_external p.nodes)))
  Ok found

-- ---- the whole

abbrev pub flight_keys : List (List ℕ)
flight_keys =
    codes "format" ∷ codes "horizon" ∷ codes "start" ∷ codes "inputs" ∷ codes "sway" ∷ codes "crew"
    ∷ []

-- a flight, with its counts, of which there are not more than the limits
unfoldable pub counted : Tables → ℕ → List (List ℤ) → List StatedInput → List Sway → List Crew
    → Says Plan
counted p horizon points given swayed crewed = do
  few_events ← unless TooManyEvents (nat_le (events_of p horizon given) 200000)
  few_numbers ← unless TooManyNumbers (nat_le (numbers_of p horizon given) 1000000)
  Ok (record {
    horizon = horizon;
    start = points;
    inputs = given;
    sways = swayed;
    crews = crewed;
    events = events_of p horizon given;
    numbers = numbers_of p horizon given;
  })

-- a flight: an object of its format, which is 1, of its horizon, and of its parts
unfoldable pub flight : Tables → ℕ → Data → Says Plan
flight p guests d = do
  ms ← or WrongShape (as_object d)
  one ← at (codes "format") (whole (pos 1) (pos 1)) ms
  horizon ← at (codes "horizon") (count 100000) ms
  points ← at (codes "start") (start p) ms
  given ← at (codes "inputs") (inputs p horizon) ms
  swayed ← at (codes "sway") (sways p) ms
  crewed ← at (codes "crew") (crews p guests) ms
  ok ← unless Unknown (all_among ms flight_keys)
  counted p horizon points given swayed crewed

-- what bytes say as a flight of the program, for so many guests
abbrev pub flight_of : Tables → ℕ → List ℕ → Says Plan
flight_of p guests bytes = or NotJson (json_of bytes) >>= flight p guests
