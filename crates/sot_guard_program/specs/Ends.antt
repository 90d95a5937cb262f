-- How a call of `guard` may end: the status, and what was read and written.
use Rattle.std.specs.Prelude.{◌≡◌, ◌⊎◌, ◌++◌, ℕ, Bool, false, List, [], String}
use Rattle.std.proofs.Common.{Global}
use Rattle.sot_ports.specs.Outside.{Outside, Writes}
use Rattle.sot_sections.specs.declared.mission.Need.TheVariants.{Check}
use Rattle.sot_tube.specs.Certified.{IsWellCertified}
use Rattle.sot_report.specs.Missions.{Mission, SpellsMission}
use Rattle.sot_report.specs.AcceptedTexts.{accepted_text}
use Rattle.sot_guard_lines.specs.Outline.{outline_text}
use Rattle.sot_guard_program.specs.Moments.{Ears, Mouth, Ended}
use Rattle.sot_guard_program.specs.Says.{Says}

abbrev pub ears_at : Outside → List ℕ → Bool → Ears
ears_at o waiting ended =
    record { left = o.left; faults = o.read_faults; waiting = waiting; ended = ended }

abbrev pub mouth_at : Outside → Mouth
mouth_at o = record { held = o.held; faults = o.write_faults }

-- before a call nothing waits; afterwards some bytes may wait that came along and were not judged
pub record EndsSome (Tells : Ears → ℕ → List ℕ → List ℕ → Type 0) (before after : Outside)
    (status : ℕ) : Type 0 where
  pub waiting : List ℕ
  pub ended : Bool
  pub is : Ended Tells (ears_at before [] false) (ears_at after waiting ended) (mouth_at before)
      (mouth_at after) status

-- the end of a call: which bytes came, which text belongs to them, at which status, and how much of
-- it was written
abbrev pub Ends : List (String Global) → Outside → Outside → ℕ → Type 0
Ends words before after status = EndsSome (Says words) before after status

-- the answer to an accepted mission, and what a robot has to know of it
abbrev pub IsAcceptance : List ℕ → Type 0
IsAcceptance text =
    (front : List ℕ) × (m : Mission) × SpellsMission Check 0 front m
    × IsWellCertified m.tables m.cert.jitter m.cert
    × (text ≡ accepted_text m.tables m.cert ++ outline_text m.tables)

-- a robot was answered nothing: what was written is nothing at all, or the answer to an accepted
-- mission with what a robot has to know of it, all of it
abbrev pub AnswersNoLine : Outside → Outside → Type 0
AnswersNoLine before after = Writes before after (λ text. (text ≡ []) ⊎ IsAcceptance text)
