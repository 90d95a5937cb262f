-- What source and sink tell before and after a call, and which text was written in between.
use Rattle.std.specs.Prelude.{◌≡◌, ◌<◌, ◌⊎◌, ℕ, List, Option, length, take}
use Rattle.std.specs.Io.KnownBytes.{Appends}
use Rattle.sot_ports.specs.Faults.{Rose}

-- what source and sink tell at one moment: the bytes that are still to come, those that were
-- taken, and how often each has failed
pub record Outside : Type 0 where
  pub left : Option (List ℕ)
  pub held : Option (List ℕ)
  pub read_faults : ℕ
  pub write_faults : ℕ

abbrev pub outside : Option (List ℕ) → Option (List ℕ) → ℕ → ℕ → Outside
outside left held read_faults write_faults =
    record { left = left; held = held; read_faults = read_faults; write_faults = write_faults }

-- a text was written without a fault and this is its status, or the sink failed before its end
abbrev pub Written : Option (List ℕ) → Option (List ℕ) → ℕ → ℕ → ℕ → List ℕ → ℕ → Type 0
Written held held_after faults faults_after said text status =
    ((status ≡ said) × (faults_after ≡ faults) × Appends held held_after text)
    ⊎ ((status ≡ 5) × Rose faults faults_after
    × ((n : ℕ) × (n < length text) × Appends held held_after (take n text)))

-- such a text was written, all of it
abbrev pub Writes : Outside → Outside → (List ℕ → Type 0) → Type 0
Writes before after Says = (text : List ℕ) × Says text × Appends before.held after.held text

-- the front of such a text was written, and not all of it
abbrev pub WritesPart : Outside → Outside → (List ℕ → Type 0) → Type 0
WritesPart before after Says =
    (text : List ℕ) × Says text × ((n : ℕ) × (n < length text)
    × Appends before.held after.held (take n text))
