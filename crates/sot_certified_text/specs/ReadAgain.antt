-- The text of a program with a certificate for its tables, when it is read as a mission.
use Rattle.std.specs.Prelude.{◌≡◌, ℕ, List, Ok}
use Rattle.sot_sections.specs.declared.mission.Need.TheVariants.{Check}
use Rattle.sot_syntax_tree.specs.Trees.{Program}
use Rattle.sot_syntax_tree.specs.Formed.{IsFormed}
use Rattle.sot_parser.specs.Programs.{Spells}
use Rattle.sot_print.specs.Canonical.{canonical}
use Rattle.sot_law_print_parse.specs.Unplaced.{AreSame}
use Rattle.sot_certified_text.specs.Missions.{mission_text}
use Rattle.sot_lang.specs.Tables.{Tables}
use Rattle.sot_lang.specs.CertRules.{FitsTables}
use Rattle.sot_lang.specs.declared.cert.Cert.{Cert}
use Rattle.sot_cert.specs.CertFormat.{contents}
use Rattle.sot_tube.specs.Certified.{IsWellCertified}
use Rattle.sot_tube.specs.Refusals.{Refusal}
use Rattle.sot_tube.specs.Verdict.{verdict}
use Rattle.sot_report.specs.declared.fault.Fault.{Fault}
use Rattle.sot_report.specs.Missions.{Resolves, Mission, SpellsMission, HasFault}
use Rattle.sot_certify.specs.Certifying.{Certifies}
use Rattle.sot_certified_text.specs.CertText.{certificate_line, line_with_jitter}
use Rattle.sot_certified_text.specs.ReadBack.{IsWritable}

-- the certificate is made for a program: some text spells the program, which breaks no rule of
-- typing; these are its tables; and the certificate is the one that is made for them, and fits them
pub record IsCertificateOf (bytes : List ℕ) (p : Program) (t : Tables) (cert : Cert) : Type 0 where
  pub spelled : Spells bytes 0 p
  pub resolved : Resolves p t
  pub made : Certifies t (Ok cert)
  pub fits : FitsTables t cert

-- what is written of a program and a certificate without jitter
abbrev pub written : Program → Tables → Cert → List ℕ
written p t cert = mission_text (canonical p) (certificate_line t cert)

-- a certificate for a program, whoever made it: the program is formed, and its canonical text
-- spells the same program; it breaks no rule of typing, and these are its tables; and the
-- certificate fits them, certifies them at its own jitter, and can be said by a text
pub record IsCertificateFor (p : Program) (t : Tables) (cert : Cert) : Type 0 where
  pub formed : IsFormed p
  pub again : (q : Program) × Spells (canonical p) 0 q × AreSame p q
  pub resolved : Resolves p t
  pub fits : FitsTables t cert
  pub certified : IsWellCertified t cert.jitter cert
  pub writable : IsWritable cert

-- a certificate that is made for a program is a certificate for it
abbrev pub MadeCertificatesAreForPrograms : Type 0
MadeCertificatesAreForPrograms =
    (bytes : List ℕ) (p : Program) (t : Tables) (cert : Cert) → IsCertificateOf bytes p t cert
    → IsCertificateFor p t cert

-- what is written of a program and a certificate with its jitter
abbrev pub written_with_jitter : Program → Tables → Cert → List ℕ
written_with_jitter p t cert = mission_text (canonical p) (line_with_jitter t cert)

-- the text of a program with a certificate for it has no fault
abbrev pub TextsWithJitterHaveNoFault : Type 0
TextsWithJitterHaveNoFault =
    (p : Program) (t : Tables) (cert : Cert) (guests : ℕ) (fault : Fault)
    → IsCertificateFor p t cert
    → HasFault Check guests (written_with_jitter p t cert) fault → ⊥

-- each mission that the text of a program with a certificate for it spells has the same program, a
-- certificate of the same contents, and so the same jitter, and is well certified
abbrev pub MissionsWithJitterAreCertified : Type 0
MissionsWithJitterAreCertified =
    (p : Program) (t : Tables) (cert : Cert) (guests : ℕ) (m : Mission)
    → IsCertificateFor p t cert
    → SpellsMission Check guests (written_with_jitter p t cert) m
    → AreSame p m.program × (contents cert ≡ contents m.cert)
    × IsWellCertified m.tables m.cert.jitter m.cert

-- no mission is refused that the text of a program with a certificate for it spells
abbrev pub MissionsWithJitterAreNotRefused : Type 0
MissionsWithJitterAreNotRefused =
    (p : Program) (t : Tables) (cert : Cert) (guests : ℕ) (m : Mission) (r : Refusal)
    → IsCertificateFor p t cert
    → SpellsMission Check guests (written_with_jitter p t cert) m
    → (verdict m.tables m.cert.jitter m.cert).Refuses r → ⊥

-- the text of a program with the certificate that is made for it has no fault
abbrev pub WrittenTextsHaveNoFault : Type 0
WrittenTextsHaveNoFault =
    (bytes : List ℕ) (p : Program) (t : Tables) (cert : Cert) (guests : ℕ) (fault : Fault)
    → IsCertificateOf bytes p t cert
    → HasFault Check guests (written p t cert) fault → ⊥

-- each mission that the text of a program with the certificate that is made for it spells is well
-- certified, and has the same program
abbrev pub WrittenMissionsAreCertified : Type 0
WrittenMissionsAreCertified =
    (bytes : List ℕ) (p : Program) (t : Tables) (cert : Cert) (guests : ℕ) (m : Mission)
    → IsCertificateOf bytes p t cert
    → SpellsMission Check guests (written p t cert) m
    → AreSame p m.program × IsWellCertified m.tables m.cert.jitter m.cert

-- no mission is refused that the text of a program with the certificate that is made for it spells
abbrev pub WrittenMissionsAreNotRefused : Type 0
WrittenMissionsAreNotRefused =
    (bytes : List ℕ) (p : Program) (t : Tables) (cert : Cert) (guests : ℕ) (m : Mission)
    (r : Refusal) → IsCertificateOf bytes p t cert
    → SpellsMission Check guests (written p t cert) m
    → (verdict m.tables m.cert.jitter m.cert).Refuses r → ⊥
