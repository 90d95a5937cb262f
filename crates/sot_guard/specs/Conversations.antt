-- What is heard in a session, one thing after another, and what that makes of the mission.
use Rattle.std.specs.Prelude.{ℕ, ℤ, true, List, [], ◌∷◌, ◌++◌, Option, ◌≡◌, ◌⊎◌}
use Rattle.sot_lang.specs.TableRules.{MeetsTableRules}
use Rattle.sot_tube.specs.Certified.{IsWellCertified}
use Rattle.sot_world.specs.Configurations.{Configuration}
use Rattle.sot_world.specs.Steps.{Event}
use Rattle.sot_world.specs.Headline.{IsSafeNow}
use Rattle.sot_law_observed_runs.specs.Observed.{ObservedRun}
use Rattle.sot_law_observed_runs.specs.Tubes.{KeepsTubes}
use Rattle.sot_guard.specs.declared.outside.Outside.{Outside}
use Rattle.sot_guard.specs.Hearing.{Hearing, TakesInput, TakesDraft, GoesThrough, TakesTick}
use Rattle.sot_guard.specs.Hearing.{Resumes, program_of, jitter_of}

-- what the robot says
pub data Heard : Type 0 where
  Input : (topic : ℕ) (value : List ℤ) → Heard
  Draft : (node : ℕ) (draft : List (Option ℤ)) → Heard
  Go : Heard
  Points : (points : List (List ℤ)) → Heard
  Resume : Heard

-- what the robot says is taken, and changes this
abbrev pub Hears : Hearing → Heard → Hearing → Type 0
Hears h (Input topic value) k = TakesInput h topic value k
Hears h (Draft n draft) k = TakesDraft h n draft k
Hears h Go k = GoesThrough h k
Hears h (Points points) k = (outside : Option Outside) × TakesTick h points outside k
Hears h Resume k = Resumes h k

-- one thing after another
abbrev pub HearsAll : Hearing → List Heard → Hearing → Type 0
HearsAll h [] k = k ≡ h
HearsAll h (x ∷ xs) k = (g : Hearing) × Hears h x g × HearsAll g xs k

-- the last one of some configurations, behind this one
abbrev pub last_of : Configuration → List Configuration → Configuration
last_of C [] = C
last_of C (D ∷ Ds) = last_of D Ds

-- what happened between them is an observed run
pub record IsObserved (h k : Hearing) : Type 0 where
  pub events : List Event
  pub configurations : List Configuration
  pub run : ObservedRun (program_of h) (jitter_of h) h.guarding.at events configurations
  pub ends : last_of h.guarding.at configurations ≡ k.guarding.at

-- one thing after another, with the models trusted before and after each
abbrev pub HearsInTrust : Hearing → List Heard → Hearing → Type 0
HearsInTrust h [] k = (h.guarding.trusted ≡ true) × (k ≡ h)
HearsInTrust h (x ∷ xs) k =
    (h.guarding.trusted ≡ true) × ((g : Hearing) × Hears h x g × HearsInTrust g xs k)

-- the last thing heard was a resume
abbrev pub EndsWithResume : List Heard → Type 0
EndsWithResume xs = (ys : List Heard) × (xs ≡ ys ++ Resume ∷ [])

-- trusted since then: since the beginning, or since a resume; all that was heard from then on was
-- heard in trust, and is an observed run
pub record IsTrustedSince (h : Hearing) (xs : List Heard) (since k : Hearing) : Type 0 where
  pub before : List Heard
  pub after : List Heard
  pub all : xs ≡ before ++ after
  pub begins : (before ≡ []) ⊎ EndsWithResume before
  pub heard : HearsAll h before since
  pub trusted : HearsInTrust since after k
  pub observed : IsObserved since k

-- tubes are kept where the models are trusted
abbrev pub KeepsTubesInTrust : Hearing → Type 0
KeepsTubesInTrust h =
    h.guarding.trusted ≡ true → KeepsTubes (program_of h) (jitter_of h) h.guarding.at

-- as long as the models are trusted, a session is an observed run
abbrev pub TrustedSessionsAreObserved : Type 0
TrustedSessionsAreObserved =
    (h k : Hearing) (xs : List Heard) → HearsInTrust h xs k → IsObserved h k

-- wherever the models are trusted, they are since the beginning or since a resume
abbrev pub TrustComesBackByAResume : Type 0
TrustComesBackByAResume =
    (h k : Hearing) (xs : List Heard) → HearsAll h xs k → k.guarding.trusted ≡ true
    → (since : Hearing) × IsTrustedSince h xs since k

-- in a session that kept tubes at its beginning, if it was trusted then, every plant is observed
-- inside its modules' safe regions wherever the models are trusted
abbrev pub TrustedSessionsAreSafe : Type 0
TrustedSessionsAreSafe =
    (h k : Hearing) (xs : List Heard) → MeetsTableRules (program_of h)
    → IsWellCertified (program_of h) (jitter_of h) h.guarding.accepted.cert
    → KeepsTubesInTrust h → HearsAll h xs k → k.guarding.trusted ≡ true
    → IsSafeNow (program_of h) (jitter_of h) k.guarding.at
