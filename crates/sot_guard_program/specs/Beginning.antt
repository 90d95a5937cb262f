-- What is said of an accepted mission, step by step.
use Rattle.std.specs.Prelude.{◌≡◌, ℕ, ◌⊎◌, Bool, true, List, [], ◌++◌, length}
use Rattle.sot_lang.specs.Tables.{Tables}
use Rattle.sot_lang.specs.declared.cert.Cert.{Cert}
use Rattle.sot_sections.specs.declared.mission.SectionFault.{SectionFault}
use Rattle.sot_tube.specs.Admitted.{Admitted}
use Rattle.sot_tube.specs.Certified.{IsWellCertified}
use Rattle.sot_tube.specs.Verdict.{verdict}
use Rattle.sot_tube.specs.Refusals.{Refusal}
use Rattle.sot_world.specs.Headline.{EveryRunIsSafe}
use Rattle.sot_trace_lines.specs.LentLines.{lent_lines}
use Rattle.sot_report.specs.declared.fault.Fault.TheVariants as faults
use Rattle.sot_report.specs.FaultTexts.{fault_text}
use Rattle.sot_report.specs.RefusalTexts.{refusal_text}
use Rattle.sot_report.specs.AcceptedTexts.{accepted_text}
use Rattle.sot_guard_protocol.specs.Openings.{Starting}
use Rattle.sot_guard_protocol.specs.Talks.{Talking}
use Rattle.sot_guard_program.specs.Conversations.{Begins, StaysSafe}
use Rattle.sot_guard_program.specs.Moments.{Ears}
use Rattle.sot_guard_program.specs.Says.{SaysBegun, SaysOutline, HasSectionFault}
use Rattle.sot_guard_program.specs.Says.{IsSilent, IsUnheldLine}

-- what is said of bytes by their lines
abbrev pub SaysIn : (Ears → ℕ → List (List ℕ) → List ℕ → Type 0) → Ears → ℕ → List ℕ → List ℕ
    → Type 0
SaysIn SaysLines b said bytes text = SaysLines b said (lent_lines bytes) text

-- what is said of bytes by their lines; there are no bytes where the source was seen to end before
abbrev pub SaysFrom : Bool → (Ears → ℕ → List (List ℕ) → List ℕ → Type 0) → Ears → ℕ → List ℕ
    → List ℕ → Type 0
SaysFrom ended SaysLines b said bytes text =
    SaysLines b said (lent_lines bytes) text × (ended ≡ true → bytes ≡ [])

-- what is said behind the starts of all plants, where the talk begins at this time
abbrev pub SaysOpened : ℕ → Starting → Ears → ℕ → List (List ℕ) → List ℕ → Type 0
SaysOpened time a b said spoken text =
    ((t : Talking) × Begins time a t × StaysSafe t × SaysBegun t (length a.starts) b said spoken text)
    ⊎ ((said ≡ 1) × (spoken ≡ []) × IsUnheldLine time a.accepted a.starts text)
    ⊎ ((spoken ≡ []) × IsSilent said text)

-- what is said of an accepted mission
abbrev pub SaysAccepted : ℕ → Admitted → Ears → ℕ → List ℕ → List ℕ → Type 0
SaysAccepted time acc b said bytes text =
    ((more : List ℕ) × (text ≡ accepted_text acc.program acc.cert ++ more)
    × SaysOutline time acc b said (lent_lines bytes) more)
    ⊎ IsSilent said text

-- what is said of a program's tables with a certificate
abbrev pub SaysJudged : ℕ → Tables → Cert → Ears → ℕ → List ℕ → List ℕ → Type 0
SaysJudged time p cert b said bytes text =
    (IsWellCertified p cert.jitter cert × EveryRunIsSafe p cert.jitter
    × SaysAccepted time (record { program = p; cert = cert }) b said bytes text)
    ⊎ ((said ≡ 1) × ((r : Refusal) × (verdict p cert.jitter cert).Refuses r
    × (text ≡ refusal_text p r)))
    ⊎ IsSilent said text

-- the line of a text without a line `%observed`
abbrev pub SaysUnmarked : List ℕ → List ℕ → Type 0
SaysUnmarked bytes text =
    (fault : SectionFault) × HasSectionFault bytes fault
    × (text ≡ fault_text (faults.Section fault))
