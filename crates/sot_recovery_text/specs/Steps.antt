-- Between the crate's own functions.
use Rattle.std.specs.Prelude.{ℕ, ℤ, ◌≡◌, List, ◌++◌}
use Rattle.sot_lang.specs.declared.cert.Cert.{Cert}
use Rattle.sot_lang.specs.Tables.{Tables}
use Rattle.sot_recover.specs.declared.fail.RecoverFail.{RecoverFail}
use Rattle.sot_recover.specs.declared.fail.RecoverFail.TheVariants.{Never, Memory}
use Rattle.sot_recovery_text.specs.Recovery.{HasOutcome, AreOutcomes}
use Rattle.sot_recovery_text.specs.Lines.{Outcome, line_within, line_never, recover_lines}
use Rattle.sot_recovery_text.specs.Lines.{never_lines}

-- a module never recovers, and this holds of the point
abbrev pub IsNever : RecoverFail → (List ℤ → Type 0) → Type 0
IsNever (Never point) P = P point
IsNever Memory P = ⊥

-- what is found of module m has its line behind the one text or the other
pub record TellsMore (t : Tables) (cert : Cert) (m : ℕ) (never within never' within' : List ℕ) :
    Type 0 where
  pub outcome : Outcome
  pub has : HasOutcome t cert m outcome
  pub never_is : never' ≡ never ++ line_never t m outcome
  pub within_is : within' ≡ within ++ line_within t cert.jitter m outcome

-- what is found of the first m modules has its lines in the two texts
pub record TellsSoFar (t : Tables) (cert : Cert) (m : ℕ) (never within : List ℕ) : Type 0 where
  pub outcomes : List Outcome
  pub are : AreOutcomes t cert m outcomes
  pub never_is : never ≡ never_lines t 0 outcomes
  pub within_is : within ≡ recover_lines t cert.jitter 0 outcomes
