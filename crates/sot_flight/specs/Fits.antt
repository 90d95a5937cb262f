-- What a flight of a program satisfies.
use Rattle.std.specs.Prelude.{ℕ, suc, ℤ, ◌+◌, ◌≤◌, ◌<◌, ◌≡◌, ◌≢◌, ◌^◌, true, List, [], length}
use Rattle.std.specs.Prelude.{Option, None, slice_index_or}
use Rattle.sot_lists.specs.Places.{At}
use Rattle.sot_box.specs.Sides.{IsIn}
use Rattle.sot_box.specs.Boxes.{IsWithin}
use Rattle.sot_lang.specs.declared.act.Act.{Act}
use Rattle.sot_lang.specs.declared.tables.TopicInfo.{TopicInfo}
use Rattle.sot_lang.specs.declared.tables.PlantInfo.{PlantInfo}
use Rattle.sot_lang.specs.declared.tables.NodeInfo.{NodeInfo}
use Rattle.sot_lang.specs.Tables.{Tables}
use Rattle.sot_lang.specs.TableRules.{IsCoded}
use Rattle.sot_lang.specs.Ranges.{range_of, bounds}
use Rattle.sot_flight.specs.Plans.{StatedInput, Plan, Sway, Still, Low, High, Listed, Drawn, Crew}
use Rattle.sot_flight.specs.Plans.{Coded, Script, Wild, Guest}
use Rattle.sot_flight.specs.Draws.{IsSpread}
use Rattle.sot_flight.specs.Counts.{event_count, number_count}

-- an input comes by the horizon, on an environment topic, with a number in its range for each
-- scalar of the topic
pub record FitsInput (p : Tables) (horizon : ℕ) (x : StatedInput) : Type 0 where
  pub in_time : x.at ≤ horizon
  pub topic : TopicInfo
  pub is : At p.topics x.topic topic
  pub outside : topic.outside ≡ true
  pub size : length x.value ≡ topic.count
  pub typed : (i : ℕ) (z : ℤ) → At x.value i z → IsIn (range_of p.scalars (topic.first + i)) z

-- a plant without disturbances has no sway; in a list there is a row, and each row is in the bounds
abbrev pub FitsSway : PlantInfo → Sway → Type 0
FitsSway plant Still = plant.noise.items ≡ []
FitsSway plant Low = Unit {0}
FitsSway plant High = Unit {0}
FitsSway plant (Listed rows) =
    (rows ≢ []) × ((i : ℕ) (row : List ℤ) → At rows i row → IsWithin (bounds plant) row)
FitsSway plant (Drawn spread seed stream) =
    (seed < 2 ^ 64) × (stream < 2 ^ 64) × IsSpread spread

-- a coded node drafts by its code, and no other one does; in a script there is a draft, and each
-- has a slot for each scalar that the node writes
abbrev pub FitsCrew : NodeInfo → Crew → Type 0
FitsCrew node Coded = (acts : List Act) × IsCoded node acts
FitsCrew node (Script drafts) =
    (node.body ≡ None) × (drafts ≢ [])
    × ((i : ℕ) (draft : List (Option ℤ)) → At drafts i draft
    → length draft ≡ length node.writes.items)
FitsCrew node (Wild spread seed stream) =
    (node.body ≡ None) × (seed < 2 ^ 64) × (stream < 2 ^ 64) × IsSpread spread
FitsCrew node (Guest index) = node.body ≡ None

-- a flight of the program, whose guests are so many: at most 100,000 ticks; a point for each plant,
-- of its width; inputs by time; a sway for each plant and a crew for each node; each guest at one
-- node; and no more events and numbers than the limits
pub record FitsFlight (p : Tables) (guests : ℕ) (f : Plan) : Type 0 where
  pub horizon : f.horizon ≤ 100000
  pub starts : length f.start ≡ length p.plants
  pub widths : (k : ℕ) (plant : PlantInfo) → At p.plants k plant
      → length (slice_index_or f.start k []) ≡ length plant.states.items
  pub inputs : (i : ℕ) (x : StatedInput) → At f.inputs i x → FitsInput p f.horizon x
  pub ordered : (i : ℕ) (x y : StatedInput) → At f.inputs i x → At f.inputs (suc i) y → x.at ≤ y.at
  pub sways : length f.sways ≡ length p.plants
  pub swayed : (k : ℕ) (plant : PlantInfo) (sway : Sway) → At p.plants k plant → At f.sways k sway
      → FitsSway plant sway
  pub crews : length f.crews ≡ length p.nodes
  pub crewed : (n : ℕ) (node : NodeInfo) (crew : Crew) → At p.nodes n node → At f.crews n crew
      → FitsCrew node crew
  pub guests_there : (n i : ℕ) → At f.crews n (Guest i) → i < guests
  pub guests_once : (m n i : ℕ) → At f.crews m (Guest i) → At f.crews n (Guest i) → m ≡ n
  pub events : f.events ≡ event_count p f
  pub few_events : f.events ≤ 200000
  pub numbers : f.numbers ≡ number_count p f
  pub few_numbers : f.numbers ≤ 1000000
