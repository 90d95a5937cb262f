-- What the histories of a flight tell.
use Rattle.std.specs.Prelude.{◌≡◌, ℕ, suc, ◌<◌, ℤ, Bool, List, [], ◌∷◌, ◌++◌, Option, Some, None}
use Rattle.std.specs.Prelude.{length}
use Rattle.sot_lists.specs.Places.{At}
use Rattle.sot_lang.specs.declared.tables.NodeInfo.{NodeInfo}
use Rattle.sot_lang.specs.Tables.{Tables}
use Rattle.sot_lang.specs.Ticks.{joined}
use Rattle.sot_code.specs.Recorded.{in_slots}
use Rattle.sot_world.specs.HistoryEntry.{Logged, InputAt, FireAt, DecideAt, TickAt}
use Rattle.sot_flight.specs.Plans.{StatedInput, Plan, Crew}
use Rattle.sot_flight.specs.Stated.{stated_noise, draft_of}
use Rattle.sot_board.specs.Flown.{Position, FlownSoFar, FlownBy}
use Rattle.sot_board.specs.Versions.{drafts_of}

-- the inputs that entries tell, each with its time
abbrev pub inputs_told : List Logged → List StatedInput
inputs_told [] = []
inputs_told (InputAt time topic value ∷ xs) =
    record { at = time; topic = topic; value = value } ∷ inputs_told xs
inputs_told (FireAt time node draft enabled ∷ xs) = inputs_told xs
inputs_told (DecideAt time decider mode ∷ xs) = inputs_told xs
inputs_told (TickAt time noise states ∷ xs) = inputs_told xs

-- how many ticks entries tell
abbrev pub ticks_told : List Logged → ℕ
ticks_told [] = 0
ticks_told (TickAt time noise states ∷ xs) = suc (ticks_told xs)
ticks_told (InputAt time topic value ∷ xs) = ticks_told xs
ticks_told (FireAt time node draft enabled ∷ xs) = ticks_told xs
ticks_told (DecideAt time decider mode ∷ xs) = ticks_told xs

-- a whole history tells the flight's inputs, each at its time and in order, and a history so far
-- the first of them
abbrev pub InputsAreTheFlights : Type 0
InputsAreTheFlights =
    (p : Tables) (jitter : ℕ) (f : Plan) (entries : List Logged)
    → (FlownBy p jitter f entries → inputs_told entries ≡ f.inputs)
    × ((Q : Position) → FlownSoFar p jitter f entries Q
    → inputs_told entries ++ Q.inputs ≡ f.inputs)

-- a history so far has as many ticks as its time says, and a whole one as many as the horizon
abbrev pub TicksAreTheTime : Type 0
TicksAreTheTime =
    (p : Tables) (jitter : ℕ) (f : Plan) (entries : List Logged)
    → (FlownBy p jitter f entries → ticks_told entries ≡ f.horizon)
    × ((Q : Position) → FlownSoFar p jitter f entries Q → ticks_told entries ≡ Q.at.time)

-- each tick comes before the horizon, with the disturbances that the flight states for its time
abbrev pub TicksAreStated : Type 0
TicksAreStated =
    (p : Tables) (jitter : ℕ) (f : Plan) (entries : List Logged) (Q : Position)
    → FlownSoFar p jitter f entries Q
    → (i time : ℕ) (noise states : List ℤ) → At entries i (TickAt time noise states)
    → (time < f.horizon) × (noise ≡ joined (stated_noise p f time))

-- each tick tells the states that the plants come to
abbrev pub TicksTellStates : Type 0
TicksTellStates =
    (p : Tables) (jitter : ℕ) (f : Plan) (entries : List Logged) (time : ℕ) (noise states : List ℤ)
    (Q : Position)
    → FlownSoFar p jitter f (entries ++ TickAt time noise states ∷ []) Q
    → states ≡ joined Q.at.points

-- a firing of an external node, whose draft the flight states by the number of the firing, tells
-- this draft
abbrev pub DraftsAreStated : Type 0
DraftsAreStated =
    (p : Tables) (jitter : ℕ) (f : Plan) (entries : List Logged) (time n : ℕ)
    (draft : List (Option ℤ)) (enabled : Bool) (Q : Position)
    → FlownSoFar p jitter f (entries ++ FireAt time n draft enabled ∷ []) Q
    → (node : NodeInfo) (crew : Crew) (stated : List (Option ℤ)) → At p.nodes n node
    → node.body ≡ None → At f.crews n crew
    → draft_of p node crew (length (drafts_of n entries)) ≡ Some stated → draft ≡ in_slots stated
