-- What is possible in a certified program is what has a step.
use Rattle.std.specs.Prelude.{◌≡◌, length}
use Rattle.sot_lang.specs.TableRules.{MeetsTableRules}
use Rattle.sot_tube.specs.Admitted.{Admitted}
use Rattle.sot_tube.specs.Certified.{IsWellCertified}
use Rattle.sot_world.specs.declared.event.Event.{Event}
use Rattle.sot_world.specs.declared.event.Event.TheVariants.{Input, Code, Guest, Decide, Tick}
use Rattle.sot_world.specs.Configurations.{Configuration}
use Rattle.sot_world.specs.Steps.{Step}
use Rattle.sot_world.specs.Invariant.{KeepsInvariant}
use Rattle.sot_world.specs.Events.{Names, IsPossible, event_of}

-- a guest's draft has eight slots
abbrev pub HasEightSlots : Event → Type 0
HasEightSlots (Input topic value) = Unit {0}
HasEightSlots (Code n) = Unit {0}
HasEightSlots (Guest n draft) = length draft ≡ 8
HasEightSlots (Decide m) = Unit {0}
HasEightSlots (Tick noise) = Unit {0}

-- in a configuration of a certified program that satisfies the invariant, an event that names what
-- is there is possible exactly where the semantics has a step by it
abbrev pub PossibleHasStep : Type 0
PossibleHasStep =
    (a : Admitted) (C : Configuration) (e : Event) → MeetsTableRules a.program
    → IsWellCertified a.program a.cert.jitter a.cert
    → KeepsInvariant a.program a.cert.jitter C → Names a.program e → HasEightSlots e
    → ((D : Configuration) → Step a.program a.cert.jitter C (event_of a.program e) D
    → IsPossible a.program a.cert.jitter C e)
    × (IsPossible a.program a.cert.jitter C e
    → (D : Configuration) × Step a.program a.cert.jitter C (event_of a.program e) D)
