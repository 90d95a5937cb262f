-- Events as they are handed in: what they name, when they are possible, and why they are not.
use Rattle.std.specs.Prelude.{ℕ, ◌+◌, ◌<◌, ℤ, true, false, List, [], ◌∷◌, ◌++◌, ◌≡◌, None, ◌-◌}
use Rattle.std.specs.Prelude.{take, drop, length, map, replicate, slice_index_or}
use Rattle.sot_lang.specs.declared.act.Act.{Act}
use Rattle.sot_lang.specs.declared.tables.TopicInfo.{TopicInfo}
use Rattle.sot_lang.specs.declared.tables.PlantInfo.{PlantInfo}
use Rattle.sot_lang.specs.declared.tables.NodeInfo.{NodeInfo}
use Rattle.sot_lang.specs.declared.tables.ModuleInfo.{ModuleInfo}
use Rattle.sot_lang.specs.Tables.{Tables}
use Rattle.sot_lang.specs.TableRules.{IsCoded}
use Rattle.sot_lang.specs.Ranges.{range_of, bounds}
use Rattle.sot_lists.specs.Places.{At}
use Rattle.sot_box.specs.Sides.{IsIn}
use Rattle.sot_box.specs.Boxes.{IsWithin}
use Rattle.sot_calendar.specs.Due.{IsDueWithin}
use Rattle.sot_world.specs.declared.event.Event.{Event}
use Rattle.sot_world.specs.declared.event.Event.TheVariants.{Input, Code, Guest, Decide, Tick}
use Rattle.sot_world.specs.declared.outcome.Why.{Why}
use Rattle.sot_world.specs.declared.outcome.Why.TheVariants.{NotDue, AlreadyFired, NodesLeft}
use Rattle.sot_world.specs.declared.outcome.Why.TheVariants.{OutsideType}
use Rattle.sot_world.specs.declared.outcome.Outcome.{Outcome}
use Rattle.sot_world.specs.declared.outcome.Outcome.TheVariants as outcome
use Rattle.sot_world.specs.Configurations.{Configuration, is_left, is_left_dm}
use Rattle.sot_world.specs.Steps as steps
use Rattle.sot_world.specs.Outcomes.{Recorded, InputTaken, NodeFired, ModuleDecided, PlantsTicked}

-- how many scalars a node writes
abbrev pub slot_count : Tables → ℕ → ℕ
slot_count p n = slice_index_or (map (λ k. length k.writes.items) p.nodes) n 0

-- how many disturbances these plants have
abbrev pub noise_count : List PlantInfo → ℕ
noise_count [] = 0
noise_count (k ∷ ks) = length k.noise.items + noise_count ks

-- a list of numbers, cut into the disturbances of each of these plants
abbrev pub cut : List PlantInfo → List ℤ → List (List ℤ)
cut [] w = []
cut (k ∷ ks) w = take (length k.noise.items) w ∷ cut ks (drop (length k.noise.items) w)

-- the event of the semantics: a draft is its slots of the scalars that the node writes, and the
-- list of all disturbances is cut plant by plant
abbrev pub event_of : Tables → Event → steps.Event
event_of p (Input topic value) = steps.Input topic value.now
event_of p (Code n) = steps.Code n
event_of p (Guest n draft) = steps.Guest n (take (slot_count p n) draft)
event_of p (Decide m) = steps.Decide m
event_of p (Tick noise) = steps.Tick (cut p.plants noise.now)

-- an event names what is there and of the right sort, and its lists have the lengths of what they
-- are for
abbrev pub Names : Tables → Event → Type 0
Names p (Input topic value) =
    (info : TopicInfo) × At p.topics topic info × (info.outside ≡ true)
    × (length value.now ≡ info.count)
Names p (Code n) = (node : NodeInfo) × (acts : List Act) × At p.nodes n node × IsCoded node acts
Names p (Guest n draft) = (node : NodeInfo) × At p.nodes n node × (node.body ≡ None)
Names p (Decide m) = m < length p.modules
Names p (Tick noise) = length noise.now ≡ noise_count p.plants

-- each number of a value is in the range of its scalar, from this scalar on
abbrev pub IsInType : Tables → ℕ → List ℤ → Type 0
IsInType p first value = (i : ℕ) (z : ℤ) → At value i z → IsIn (range_of p.scalars (first + i)) z

-- each plant's part of a list of disturbances is in its bounds
abbrev pub IsInBounds : List PlantInfo → List ℤ → Type 0
IsInBounds [] w = Unit {0}
IsInBounds (k ∷ ks) w =
    IsWithin (bounds k) (take (length k.noise.items) w)
    × IsInBounds ks (drop (length k.noise.items) w)

-- the topic's value is in its type
abbrev pub IsTypedInput : Tables → ℕ → List ℤ → Type 0
IsTypedInput p topic value =
    (info : TopicInfo) × At p.topics topic info × IsInType p info.first value

-- an event can happen now: a value is in its topic's type, what fires or decides is left to do so,
-- and for a tick nothing that is left has its deadline now and all disturbances are in bounds
abbrev pub IsPossible : Tables → ℕ → Configuration → Event → Type 0
IsPossible p jitter C (Input topic value) = IsTypedInput p topic value.now
IsPossible p jitter C (Code n) = is_left C n ≡ true
IsPossible p jitter C (Guest n draft) = is_left C n ≡ true
IsPossible p jitter C (Decide m) = is_left_dm C m ≡ true
IsPossible p jitter C (Tick noise) = steps.MayTick p jitter C × IsInBounds p.plants noise.now

-- a node is due now, or was at most as many ticks ago as the jitter
abbrev pub IsNodeDue : Tables → ℕ → Configuration → ℕ → Type 0
IsNodeDue p jitter C n =
    (node : NodeInfo) × At p.nodes n node × IsDueWithin jitter node.period node.offset C.time

-- a decision is due now, or was at most as many ticks ago as the jitter
abbrev pub IsDecisionDue : Tables → ℕ → Configuration → ℕ → Type 0
IsDecisionDue p jitter C m =
    (a : ModuleInfo) × At p.modules m a × IsDueWithin jitter a.period a.offset C.time

-- why a node cannot fire now: there is no such due time, or it has fired for it
abbrev pub RefusesNode : Tables → ℕ → Configuration → ℕ → Why → Type 0
RefusesNode p jitter C n NotDue = IsNodeDue p jitter C n → ⊥
RefusesNode p jitter C n AlreadyFired = IsNodeDue p jitter C n × (is_left C n ≡ false)
RefusesNode p jitter C n NodesLeft = ⊥
RefusesNode p jitter C n OutsideType = ⊥

-- why a decision cannot be made now
abbrev pub RefusesDecision : Tables → ℕ → Configuration → ℕ → Why → Type 0
RefusesDecision p jitter C m NotDue = IsDecisionDue p jitter C m → ⊥
RefusesDecision p jitter C m AlreadyFired = IsDecisionDue p jitter C m × (is_left_dm C m ≡ false)
RefusesDecision p jitter C m NodesLeft = ⊥
RefusesDecision p jitter C m OutsideType = ⊥

-- why an input cannot be taken
abbrev pub RefusesInput : Tables → ℕ → List ℤ → Why → Type 0
RefusesInput p topic value NotDue = ⊥
RefusesInput p topic value AlreadyFired = ⊥
RefusesInput p topic value NodesLeft = ⊥
RefusesInput p topic value OutsideType = IsTypedInput p topic value → ⊥

-- why no tick can come now; what is left and has its deadline now comes first
abbrev pub RefusesTick : Tables → ℕ → Configuration → List ℤ → Why → Type 0
RefusesTick p jitter C noise NotDue = ⊥
RefusesTick p jitter C noise AlreadyFired = ⊥
RefusesTick p jitter C noise NodesLeft = steps.MayTick p jitter C → ⊥
RefusesTick p jitter C noise OutsideType =
    steps.MayTick p jitter C × (IsInBounds p.plants noise → ⊥)

-- why an event cannot happen now
abbrev pub Refuses : Tables → ℕ → Configuration → Event → Why → Type 0
Refuses p jitter C (Input topic value) why = RefusesInput p topic value.now why
Refuses p jitter C (Code n) why = RefusesNode p jitter C n why
Refuses p jitter C (Guest n draft) why = RefusesNode p jitter C n why
Refuses p jitter C (Decide m) why = RefusesDecision p jitter C m why
Refuses p jitter C (Tick noise) why = RefusesTick p jitter C noise.now why

-- the outcome that tells what is recorded, with nothing in the slots past the node's
abbrev pub outcome_of : Recorded → Outcome
outcome_of InputTaken = outcome.Input
outcome_of (NodeFired draft enabled) =
    outcome.Fired (draft ++ replicate (8 - length draft) None) enabled
outcome_of (ModuleDecided mode) = outcome.Decided mode
outcome_of PlantsTicked = outcome.Ticked
