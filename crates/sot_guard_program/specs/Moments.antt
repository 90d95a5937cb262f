-- What source and sink tell at one moment of a talk, and what went over between two.
use Rattle.std.specs.Prelude.{◌≡◌, ◌≢◌, ℕ, Bool, List, Option}
use Rattle.std.specs.Io.KnownBytes.{Appends}
use Rattle.sot_ports.specs.Faults.{Rose}
use Rattle.sot_ports.specs.Outside.{Written}
use Rattle.sot_guard_input.specs.declared.ear.Ear.{Ear}
use Rattle.sot_guard_input.specs.Reading.{Reads}

-- what source and ear tell: the bytes that are still to come, how often the source has failed,
-- those that wait, and whether the source was seen to end
pub record Ears : Type 0 where
  pub left : Option (List ℕ)
  pub faults : ℕ
  pub waiting : List ℕ
  pub ended : Bool

abbrev pub ears : Option (List ℕ) → ℕ → Ear → Ears
ears left faults e =
    record { left = left; faults = faults; waiting = e.buffer; ended = e.ended }

-- what a sink tells: the bytes that it took, and how often it has failed
pub record Mouth : Type 0 where
  pub held : Option (List ℕ)
  pub faults : ℕ

abbrev pub mouth : Option (List ℕ) → ℕ → Mouth
mouth held faults = record { held = held; faults = faults }

-- so many bytes were passed, and no read failed
pub record Passes (a b : Ears) (passed : List ℕ) : Type 0 where
  pub reads : Reads a.left b.left a.waiting b.waiting passed
  pub well : b.faults ≡ a.faults

-- a text was written, and no write failed
pub record Utters (x y : Mouth) (text : List ℕ) : Type 0 where
  pub taken : Appends x.held y.held text
  pub well : y.faults ≡ x.faults

-- how a call ends that reads and writes: so many bytes were passed, and with the status `said` this
-- text belongs to them, by `Says`; all of it was written, and the call ends with this status; or
-- the sink failed before its end, and it ends with 5. A read failed where it ends with 4, and there
-- alone
pub record Ended (Says : Ears → ℕ → List ℕ → List ℕ → Type 0) (a b : Ears) (x y : Mouth)
    (status : ℕ) : Type 0 where
  pub passed : List ℕ
  pub said : ℕ
  pub text : List ℕ
  pub reads : Reads a.left b.left a.waiting b.waiting passed
  pub says : Says b said passed text
  pub written : Written x.held y.held x.faults y.faults said text status
  pub read_well : status ≢ 4 → b.faults ≡ a.faults
  pub read_fault : status ≡ 4 → Rose a.faults b.faults
