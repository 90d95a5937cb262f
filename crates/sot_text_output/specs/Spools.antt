-- What was put into a spool.
use Rattle.std.specs.Prelude.{◌≡◌, ℕ, ◌<◌, ◌⊎◌, Bool, true, false, List, ◌++◌, Option, length, take}
use Rattle.std.specs.Io.KnownBytes.{Appends}
use Rattle.sot_ports.specs.Faults.{Rose}

-- a spool at one moment: what its sink tells that it has taken, how often the sink has failed, what
-- waits in the buffer, and whether the sink has taken all that was handed on
pub record Spooling : Type 0 where
  pub held : Option (List ℕ)
  pub faults : ℕ
  pub waiting : List ℕ
  pub is_well : Bool

-- the sink, which held this and had so many faults, has taken a front of the text without a fault,
-- and the rest waits
abbrev pub Waits : Option (List ℕ) → ℕ → Spooling → List ℕ → Type 0
Waits held faults s text =
    (s.faults ≡ faults) × ((sent : List ℕ) × Appends held s.held sent × (text ≡ sent ++ s.waiting))

-- the sink has taken a front of the text, and not all of it, and has failed
abbrev pub IsCutOff : Option (List ℕ) → ℕ → Spooling → List ℕ → Type 0
IsCutOff held faults s text =
    Rose faults s.faults
    × ((sent : List ℕ) × (rest : List ℕ) × (0 < length rest) × Appends held s.held sent
    × (text ≡ sent ++ rest))

-- what was put, since the sink held this and had so many faults, is this text
abbrev pub IsSpooled : Option (List ℕ) → ℕ → Spooling → List ℕ → Type 0
IsSpooled held faults s text =
    ((s.is_well ≡ true) × Waits held faults s text)
    ⊎ ((s.is_well ≡ false) × IsCutOff held faults s text)

-- whatever was put before, it has grown by this text
abbrev pub Grows : Spooling → Spooling → List ℕ → Type 0
Grows before after more =
    (held : Option (List ℕ)) (faults : ℕ) (text : List ℕ) → IsSpooled held faults before text
    → IsSpooled held faults after (text ++ more)

-- a sink was given bytes: it took them all, or a front of them before it failed
abbrev pub Sends : Option (List ℕ) → ℕ → Option (List ℕ) → ℕ → List ℕ → Bool → Type 0
Sends held faults held_after faults_after bytes true =
    (faults_after ≡ faults) × Appends held held_after bytes
Sends held faults held_after faults_after bytes false =
    Rose faults faults_after
    × ((sent : List ℕ) × (rest : List ℕ) × (0 < length rest) × Appends held held_after sent
    × (bytes ≡ sent ++ rest))

-- a sink was given bytes where all before them were taken, and nothing where not
abbrev pub Gives : Bool → Option (List ℕ) → ℕ → Option (List ℕ) → ℕ → List ℕ → Bool → Type 0
Gives true held faults held_after faults_after bytes all =
    Sends held faults held_after faults_after bytes all
Gives false held faults held_after faults_after bytes all =
    (held_after ≡ held) × (faults_after ≡ faults) × (all ≡ false)

-- the sink, which held this and had so many faults, has taken the text without a fault
abbrev pub Arrives : Option (List ℕ) → ℕ → Spooling → List ℕ → Type 0
Arrives held faults s text = (s.faults ≡ faults) × Appends held s.held text

-- it has failed, and has taken a front of the text that is not all of it
abbrev pub ArrivesInPart : Option (List ℕ) → ℕ → Spooling → List ℕ → Type 0
ArrivesInPart held faults s text =
    Rose faults s.faults
    × ((n : ℕ) × (n < length text) × Appends held s.held (take n text))
