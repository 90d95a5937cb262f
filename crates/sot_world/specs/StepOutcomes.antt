-- What `World::step` asks of an event beside its being possible, and what it answers.
use Rattle.std.specs.Prelude.{◌<◌, ◌≡◌, ℤ, List, Option}
use Rattle.sot_lang.specs.Tables.{Tables}
use Rattle.sot_world.specs.declared.event.Event.{Event}
use Rattle.sot_world.specs.declared.event.Event.TheVariants.{Input, Code, Guest, Decide, Tick}
use Rattle.sot_code.specs.Recorded.{in_slots}
use Rattle.sot_world.specs.declared.outcome.Outcome.{Outcome}
use Rattle.sot_world.specs.declared.outcome.Firing.{Firing}
use Rattle.sot_world.specs.Configurations.{Configuration}
use Rattle.sot_world.specs.Outcomes.{Recorded, NodeFired, Records}
use Rattle.sot_world.specs.Events.{event_of, outcome_of}

-- a tick comes before the greatest horizon
abbrev pub IsInTime : Configuration → Event → Type 0
IsInTime C (Input topic value) = Unit {0}
IsInTime C (Code n) = Unit {0}
IsInTime C (Guest n draft) = Unit {0}
IsInTime C (Decide m) = Unit {0}
IsInTime C (Tick noise) = C.time < 100000

-- the outcome tells what is recorded of the step by an event from C to D
abbrev pub IsOutcome : Tables → Configuration → Event → Configuration → Outcome → Type 0
IsOutcome p C e D outcome =
    (r : Recorded) × Records p C (event_of p e) D r × (outcome ≡ outcome_of r)

-- a firing tells what is recorded of it, with the draft in eight slots
abbrev pub IsFiring : Firing → Recorded → Type 0
IsFiring firing r =
    (draft : List (Option ℤ)) × (r ≡ NodeFired draft firing.enabled)
    × (firing.draft ≡ in_slots draft)
