-- Histories of a flight: runs whose inputs, disturbances and drafts are those that the flight
-- states.
use Rattle.std.specs.Prelude.{ℕ, suc, ℤ, ◌<◌, ◌≡◌, ◌≢◌, Bool, List, [], ◌∷◌, Option, Some, None}
use Rattle.std.specs.Prelude.{slice_index_or, slice_set, map}
use Rattle.sot_lists.specs.Places.{At}
use Rattle.sot_lang.specs.declared.tables.NodeInfo.{NodeInfo}
use Rattle.sot_lang.specs.Tables.{Tables}
use Rattle.sot_lang.specs.Ticks.{joined}
use Rattle.sot_code.specs.Recorded.{in_slots}
use Rattle.sot_world.specs.Configurations.{Configuration, IsOpening}
use Rattle.sot_world.specs.Steps.{Event, Input, Code, Guest, Decide, Tick, Step}
use Rattle.sot_world.specs.Outcomes.{Recorded, NodeFired, ModuleDecided, Records}
use Rattle.sot_world.specs.Calendar.{NothingLeft}
use Rattle.sot_world.specs.HistoryEntry.{Logged, InputAt, FireAt, DecideAt, TickAt}
use Rattle.sot_flight.specs.Plans.{StatedInput, Plan, Crew}
use Rattle.sot_flight.specs.Stated.{stated_noise, draft_of}

-- where a flight stands: its configuration, the inputs that are still to come, and for each node
-- how often it has fired
pub record Position : Type 0 where
  pub at : Configuration
  pub inputs : List StatedInput
  pub fired : List ℕ

abbrev pub fired_of : Position → ℕ → ℕ
fired_of P n = slice_index_or P.fired n 0

-- no input that is still to come is due now
abbrev pub NoInputDue : Position → Type 0
NoInputDue P = (i : ℕ) (x : StatedInput) → At P.inputs i x → x.at ≢ P.at.time

-- a draft is the stated one, and where none is stated, as for a guest, it is any
abbrev pub IsStatedDraft : Option (List (Option ℤ)) → List (Option ℤ) → Type 0
IsStatedDraft None draft = Unit {0}
IsStatedDraft (Some stated) draft = draft ≡ stated

-- an event is as the flight states it: an input is the next one, at its time; a draft is the stated
-- one of that firing; a tick comes before the horizon, once no input is due, with the stated
-- disturbances
abbrev pub IsStated : Tables → Plan → Position → Event → Type 0
IsStated p f P (Input topic value) =
    (rest : List StatedInput) × (P.inputs
    ≡ record { at = P.at.time; topic = topic; value = value } ∷ rest)
IsStated p f P (Code n) = Unit {0}
IsStated p f P (Guest n draft) =
    (node : NodeInfo) × (crew : Crew) × At p.nodes n node × At f.crews n crew
    × IsStatedDraft (draft_of p node crew (fired_of P n)) draft
IsStated p f P (Decide m) = Unit {0}
IsStated p f P (Tick noise) =
    (P.at.time < f.horizon) × NoInputDue P × (noise ≡ stated_noise p f P.at.time)

-- the inputs that are still to come after an event
abbrev pub inputs_after : Event → List StatedInput → List StatedInput
inputs_after (Input topic value) [] = []
inputs_after (Input topic value) (x ∷ xs) = xs
inputs_after (Code n) xs = xs
inputs_after (Guest n draft) xs = xs
inputs_after (Decide m) xs = xs
inputs_after (Tick noise) xs = xs

-- how often each node has fired after an event
abbrev pub fired_after : Event → List ℕ → List ℕ
fired_after (Input topic value) fired = fired
fired_after (Code n) fired = slice_set fired n (suc (slice_index_or fired n 0))
fired_after (Guest n draft) fired = slice_set fired n (suc (slice_index_or fired n 0))
fired_after (Decide m) fired = fired
fired_after (Tick noise) fired = fired

-- an entry of a history tells of an event from C to D: its time, what it was, and what is recorded
-- of it; a draft stands in eight slots, the disturbances and the states of all plants one plant
-- after another
abbrev pub Tells : Configuration → Event → Recorded → Configuration → Logged → Type 0
Tells C (Input topic value) r D entry = entry ≡ InputAt C.time topic value
Tells C (Code n) r D entry =
    (draft : List (Option ℤ)) × (enabled : Bool) × (r ≡ NodeFired draft enabled)
    × (entry ≡ FireAt C.time n (in_slots draft) enabled)
Tells C (Guest n _) r D entry =
    (draft : List (Option ℤ)) × (enabled : Bool) × (r ≡ NodeFired draft enabled)
    × (entry ≡ FireAt C.time n (in_slots draft) enabled)
Tells C (Decide m) r D entry =
    (mode : _) × (r ≡ ModuleDecided mode) × (entry ≡ DecideAt C.time m mode)
Tells C (Tick noise) r D entry = entry ≡ TickAt C.time (joined noise) (joined D.points)

-- a flight goes from P to Q by one event of the semantics, as the flight states it, and this entry
-- tells of it
pub record Flies (p : Tables) (jitter : ℕ) (f : Plan) (P : Position) (entry : Logged) (Q : Position)
    : Type 0 where
  pub event : Event
  pub stated : IsStated p f P event
  pub step : Step p jitter P.at event Q.at
  pub recorded : Recorded
  pub records : Records p P.at event Q.at recorded
  pub tells : Tells P.at event recorded Q.at entry
  pub inputs : Q.inputs ≡ inputs_after event P.inputs
  pub fired : Q.fired ≡ fired_after event P.fired

-- the entries lead from P to Q, one event after another
abbrev pub Leads : Tables → ℕ → Plan → Position → List Logged → Position → Type 0
Leads p jitter f P [] Q = P ≡ Q
Leads p jitter f P (entry ∷ entries) Q =
    (R : Position) × Flies p jitter f P entry R × Leads p jitter f R entries Q

-- the start of a flight: the opening at its points, all inputs still to come, and no node has fired
pub record IsStart (p : Tables) (f : Plan) (P : Position) : Type 0 where
  pub opening : IsOpening p f.start P.at
  pub inputs : P.inputs ≡ f.inputs
  pub fired : P.fired ≡ map (λ n. 0) p.nodes

-- a history of the flight so far, which stands at Q
abbrev pub FlownSoFar : Tables → ℕ → Plan → List Logged → Position → Type 0
FlownSoFar p jitter f entries Q = (P : Position) × IsStart p f P × Leads p jitter f P entries Q

-- the end of a flight: its horizon, with nothing left to fire or to input
pub record IsEnd (p : Tables) (f : Plan) (Q : Position) : Type 0 where
  pub time : Q.at.time ≡ f.horizon
  pub inputs : Q.inputs ≡ []
  pub nothing : NothingLeft p Q.at

-- a history of the flight: a run from its start with as many ticks as the horizon, after which
-- nothing is left to fire or to input; its inputs are the flight's, each at its time and in order,
-- its disturbances and stated drafts are those of the flight, and the drafts of guests are any
abbrev pub FlownBy : Tables → ℕ → Plan → List Logged → Type 0
FlownBy p jitter f entries = (Q : Position) × FlownSoFar p jitter f entries Q × IsEnd p f Q
