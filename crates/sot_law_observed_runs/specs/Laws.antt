-- What observed runs are good for.
use Rattle.std.specs.Prelude.{ℤ, List}
use Rattle.sot_lang.specs.declared.cert.Cert.{Cert}
use Rattle.sot_lang.specs.Tables.{Tables}
use Rattle.sot_lang.specs.TableRules.{MeetsTableRules}
use Rattle.sot_tube.specs.Certified.{IsWellCertified}
use Rattle.sot_world.specs.Configurations.{Configuration, IsOpening, IsSafer}
use Rattle.sot_world.specs.Steps.{Event}
use Rattle.sot_world.specs.Runs.{Run}
use Rattle.sot_world.specs.Headline.{IsSafeNow}
use Rattle.sot_law_observed_runs.specs.Observed.{ObservedStep, ObservedRun, InEveryObservedRun}
use Rattle.sot_law_observed_runs.specs.Observed.{HasNextBoxes}
use Rattle.sot_law_observed_runs.specs.Tubes.{KeepsTubes}

-- every observed run of a certified program from plants in their safer regions is safe, and no tick
-- that may come has an operand that may trap
abbrev pub ObservedRunsAreSafe : Type 0
ObservedRunsAreSafe =
    (p : Tables) (cert : Cert) → MeetsTableRules p → IsWellCertified p cert.jitter cert
    → InEveryObservedRun p cert.jitter
    (λ D. IsSafeNow p cert.jitter D × HasNextBoxes p cert.jitter D)

-- every run of a certified program from plants in their safer regions is an observed run
abbrev pub RunsAreObserved : Type 0
RunsAreObserved =
    (p : Tables) (cert : Cert) (start : List (List ℤ)) (C : Configuration) (events : List Event)
    (Ds : List Configuration) → MeetsTableRules p → IsWellCertified p cert.jitter cert
    → IsOpening p start C → IsSafer p C → Run p cert.jitter C events Ds
    → ObservedRun p cert.jitter C events Ds

-- the opening of a certified program with plants in their safer regions keeps tubes
abbrev pub OpeningsKeepTubes : Type 0
OpeningsKeepTubes =
    (p : Tables) (cert : Cert) (start : List (List ℤ)) (C : Configuration) → MeetsTableRules p
    → IsWellCertified p cert.jitter cert → IsOpening p start C → IsSafer p C
    → KeepsTubes p cert.jitter C

-- from any configuration that keeps tubes, reached or not, each observed step leads to one that
-- does
abbrev pub ObservedStepsKeepTubes : Type 0
ObservedStepsKeepTubes =
    (p : Tables) (cert : Cert) (C D : Configuration) (e : Event) → MeetsTableRules p
    → IsWellCertified p cert.jitter cert → KeepsTubes p cert.jitter C
    → ObservedStep p cert.jitter C e D → KeepsTubes p cert.jitter D

-- a configuration of a certified program that keeps tubes is safe
abbrev pub TubesAreSafe : Type 0
TubesAreSafe =
    (p : Tables) (cert : Cert) (C : Configuration) → MeetsTableRules p
    → IsWellCertified p cert.jitter cert → KeepsTubes p cert.jitter C
    → IsSafeNow p cert.jitter C

-- where a configuration of a certified program keeps tubes, each plant has a next box where a tick
-- may come
abbrev pub TubesHaveNextBoxes : Type 0
TubesHaveNextBoxes =
    (p : Tables) (cert : Cert) (C : Configuration) → MeetsTableRules p
    → IsWellCertified p cert.jitter cert → KeepsTubes p cert.jitter C
    → HasNextBoxes p cert.jitter C
