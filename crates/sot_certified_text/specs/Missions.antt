-- A certificate behind a program.
use Rattle.std.specs.Prelude.{◌≡◌, ℕ, List, [], ◌∷◌, ◌++◌, None, Ok, codes}
use Rattle.sot_sections.specs.declared.mission.Need.TheVariants.{Check}
use Rattle.sot_sections.specs.Sections.{split_of}
use Rattle.sot_certified_text.specs.Plain.{EndsLine, IsPlain}

-- a program's text, the line `%certificate`, and the text of a certificate
abbrev pub mission_text : List ℕ → List ℕ → List ℕ
mission_text program cert = program ++ ((codes "%certificate" ++ 10 ∷ []) ++ cert)

-- a program's text and the text of a certificate are the sections of the mission that is made of
-- them
abbrev pub CertificatesStandBehind : Type 0
CertificatesStandBehind =
    (program cert : List ℕ) → EndsLine program → IsPlain program → IsPlain cert
    → split_of (mission_text program cert) Check
    ≡ Ok (record { program = program; cert = cert; flight = None; trace = None })
