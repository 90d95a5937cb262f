-- That there are openings.
use Rattle.std.specs.Prelude.{ℕ, ℤ, List, ◌≡◌}
use Rattle.sot_lang.specs.declared.cert.Cert.{Cert}
use Rattle.sot_lang.specs.Tables.{Tables}
use Rattle.sot_lang.specs.TableRules.{MeetsTableRules}
use Rattle.sot_tube.specs.Certified.{IsWellCertified}
use Rattle.sot_world.specs.Configurations.{Configuration, IsOpening, IsSafer}
use Rattle.sot_world.specs.Opens.{AreStarts}
use Rattle.sot_world.specs.Headline.{IsSafeNow}
use Rattle.sot_law_runs.specs.GoingOn.{ComesToTime}

-- at any points, one a plant and each as wide as its plant, there is an opening
abbrev pub PointsOpen : Type 0
PointsOpen =
    (p : Tables) (start : List (List ℤ)) → AreStarts p start
    → (C : Configuration) × IsOpening p start C

-- at any points there is one opening at most
abbrev pub OpeningsAreUnique : Type 0
OpeningsAreUnique =
    (p : Tables) (start : List (List ℤ)) (C D : Configuration) → IsOpening p start C
    → IsOpening p start D → C ≡ D

-- an opening at points in the safer regions, which is safe, and from which it is not so that no run
-- comes to some time
pub record OpensSafely (p : Tables) (jitter : ℕ) : Type 0 where
  pub start : List (List ℤ)
  pub C : Configuration
  pub opening : IsOpening p start C
  pub safer : IsSafer p C
  pub safe : IsSafeNow p jitter C
  pub goes_on : (time : ℕ) → (ComesToTime p jitter C time → ⊥) → ⊥

-- every well-certified program has such an opening
abbrev pub CertifiedProgramsOpen : Type 0
CertifiedProgramsOpen =
    (p : Tables) (jitter : ℕ) (cert : Cert) → MeetsTableRules p → IsWellCertified p jitter cert
    → OpensSafely p jitter
