-- Before the greatest horizon every event is in time.
use Rattle.std.proofs.Common.{◌<◌}
use Rattle.sot_world.specs.declared.event.Event.{Event}
use Rattle.sot_world.specs.declared.event.Event.TheVariants.{Input, Code, Guest, Decide, Tick}
use Rattle.sot_world.specs.Configurations.{Configuration}
use Rattle.sot_world.specs.StepOutcomes.{IsInTime}

pub in_time : (C : Configuration) (e : Event) → C.time < 100000 → IsInTime C e
in_time C (Input topic value) h = tt
in_time C (Code n) h = tt
in_time C (Guest n draft) h = tt
in_time C (Decide m) h = tt
in_time C (Tick noise) h = h
