-- What is possible in a certified program has a step, since of each decision it is settled whether the tube keeps.
use Rattle.sot_lang.specs.TableRules.{MeetsTableRules}
use Rattle.sot_tube.specs.Admitted.{Admitted}
use Rattle.sot_tube.specs.Certified.{IsWellCertified}
use Rattle.sot_tube.proofs.Certificate.{certified_well}
use Rattle.sot_world.specs.declared.event.Event.{Event}
use Rattle.sot_world.specs.declared.event.Event.TheVariants.{Input, Code, Guest, Decide, Tick}
use Rattle.sot_world.specs.Configurations.{Configuration, point_of}
use Rattle.sot_world.specs.Possible.{IsSettled}
use Rattle.sot_world.proofs.Possible.{possible_is_step}
use Rattle.sot_law_flights.specs.Possible.{HasEightSlots, PossibleHasStep}
use Rattle.sot_law_flights.proofs.Keeping.{keeps_settled}

settled : (a : Admitted) (C : Configuration) (e : Event) → MeetsTableRules a.program → IsWellCertified a.program a.cert.jitter a.cert → HasEightSlots e
    → IsSettled a.program a.cert.jitter C e
settled a C (Input topic value) rules certified eight = tt
settled a C (Code n) rules certified eight = tt
settled a C (Guest n draft) rules certified eight = eight
settled a C (Decide m) rules certified eight = λ info at. keeps_settled a.program a.cert.jitter a.cert rules certified m info at (point_of C info.plant)
settled a C (Tick noise) rules certified eight = tt

pub possible_has_step : PossibleHasStep
possible_has_step a C e rules certified kept names eight =
    let both = possible_is_step a.program a.cert.jitter C e rules (certified_well a.program a.cert.jitter a.cert rules.typed certified) kept names in
    (both.0, λ possible. both.1 possible (settled a C e rules certified eight))
