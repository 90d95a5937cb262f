-- What is said of the recovery of a program's modules.
use Rattle.std.specs.Prelude.{ℕ, ℤ, ◌≡◌, List, ◌++◌, length}
use Rattle.sot_lists.specs.Places.{At, Has}
use Rattle.sot_lang.specs.declared.cert.Cert.{Cert}
use Rattle.sot_lang.specs.Tables.{Tables}
use Rattle.sot_law_runs.specs.Holds.{Guarded, IsRecovered}
use Rattle.sot_law_runs.specs.Ranks.{IsRank, HasNoRank}
use Rattle.sot_law_runs.specs.RunHolds.{FiringsAreHolds, TrustsAfter}
use Rattle.sot_recovery_text.specs.Lines.{Outcome, Within, Never, recover_lines}
use Rattle.sot_recovery_text.specs.Lines.{never_lines}

-- module m recovers within n holds, which is its rank: in every row of holds from its safe region
-- every point of each hold after the first n is in its safer region. In runs from safer openings
-- the path between two firings of its safe node is a hold where the mode stays Sc, and after n
-- whole holds the decision that comes next trusts the advanced node
pub record Recovers (t : Tables) (cert : Cert) (m n : ℕ) : Type 0 where
  pub parts : Guarded t cert m
  pub rank : IsRank parts n
  pub recovered : IsRecovered parts n
  pub holds : FiringsAreHolds parts
  pub trusts : TrustsAfter parts n

-- module m has no rank: the cells of all ranks leave this point of its safe region out
pub record NeverRecovers (t : Tables) (cert : Cert) (m : ℕ) (point : List ℤ) : Type 0 where
  pub parts : Guarded t cert m
  pub none : HasNoRank parts point

-- module m recovers within so many holds, or never does, for this point
abbrev pub HasOutcome : Tables → Cert → ℕ → Outcome → Type 0
HasOutcome t cert m (Within n) = Recovers t cert m n
HasOutcome t cert m (Never point) = NeverRecovers t cert m point

-- these are the outcomes of the first m modules
pub record AreOutcomes (t : Tables) (cert : Cert) (m : ℕ) (outcomes : List Outcome) : Type 0 where
  pub count : length outcomes ≡ m
  pub each : (k : ℕ) (o : Outcome) → At outcomes k o → HasOutcome t cert k o

-- the text has a line for each module: for those that never recover, in declared order, and behind
-- them for those that do, in declared order
pub record TellsAll (t : Tables) (cert : Cert) (outcomes : List Outcome) (text : List ℕ) : Type 0
  where
    pub are : AreOutcomes t cert (length t.modules) outcomes
    pub said : text ≡ never_lines t 0 outcomes ++ recover_lines t cert.jitter 0 outcomes

-- all modules recover
pub record AllRecover (t : Tables) (cert : Cert) (text : List ℕ) : Type 0 where
  pub outcomes : List Outcome
  pub tells : TellsAll t cert outcomes text
  pub all : (point : List ℤ) → Has outcomes (Never point) → ⊥

-- some module never recovers
pub record SomeNever (t : Tables) (cert : Cert) (text : List ℕ) : Type 0 where
  pub outcomes : List Outcome
  pub tells : TellsAll t cert outcomes text
  pub point : List ℤ
  pub never : Has outcomes (Never point)
