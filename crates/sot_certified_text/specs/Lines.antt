-- A certificate's line, and the text of a certified program.
use Rattle.std.specs.Prelude.{◌≡◌, ℕ, List, [], ◌∷◌, ◌++◌, Some, None, Ok}
use Rattle.serde_json.specs.Data.{Data}
use Rattle.sot_sections.specs.declared.mission.Need.TheVariants.{Check}
use Rattle.sot_text.specs.declared.token.Kind.TheVariants.{Name}
use Rattle.sot_text.specs.Lexeme.{IsTokenText}
use Rattle.sot_text.specs.LineEnds.{lines}
use Rattle.sot_sections.specs.Sections.{split_of}
use Rattle.sot_syntax_tree.specs.Trees.{Program}
use Rattle.sot_syntax_tree.specs.Formed.{IsFormed}
use Rattle.sot_print.specs.Canonical.{canonical}
use Rattle.sot_certified_text.specs.Plain.{IsPlain}
use Rattle.sot_certified_text.specs.Missions.{mission_text}
use Rattle.sot_lists.specs.Places.{At}
use Rattle.sot_lang.specs.declared.cert.Cert.{Cert}
use Rattle.sot_lang.specs.declared.tables.ModuleInfo.{ModuleInfo}
use Rattle.sot_lang.specs.Tables.{Tables}
use Rattle.sot_lang.specs.TableRules.{MeetsTableRules}
use Rattle.sot_lang.specs.CertRules.{FitsTables}
use Rattle.sot_json.specs.Json.{json_of}
use Rattle.sot_cert.specs.CertFormat.{cert_of, contents}
use Rattle.sot_certified_text.specs.CertText.{certificate_line, line_with_jitter}
use Rattle.sot_certified_text.specs.ReadBack.{IsWritable}

-- a certificate's line is one line, and no section line
abbrev pub CertificateLinesArePlain : Type 0
CertificateLinesArePlain =
    (t : Tables) (cert : Cert) → (lines (line_with_jitter t cert) ≡ line_with_jitter t cert ∷ [])
    × IsPlain (line_with_jitter t cert)

-- the text of a certified program divides into the program's canonical text and the certificate's
-- line, with its jitter or without
abbrev pub CertifiedTextsDivide : Type 0
CertifiedTextsDivide =
    (p : Program) (t : Tables) (cert : Cert) → IsFormed p
    → split_of (mission_text (canonical p) (certificate_line t cert)) Check
    ≡ Ok (record {
      program = canonical p;
      cert = certificate_line t cert;
      flight = None;
      trace = None;
    })

abbrev pub TextsWithJitterDivide : Type 0
TextsWithJitterDivide =
    (p : Program) (t : Tables) (cert : Cert) → IsFormed p
    → split_of (mission_text (canonical p) (line_with_jitter t cert)) Check
    ≡ Ok (record {
      program = canonical p;
      cert = line_with_jitter t cert;
      flight = None;
      trace = None;
    })

-- JSON with a line end behind it is the same JSON
abbrev pub LineEndsChangeNoJson : Type 0
LineEndsChangeNoJson =
    (bytes : List ℕ) (d : Data) → json_of bytes ≡ Some d → json_of (bytes ++ 10 ∷ []) ≡ Some d

-- the modules' names are words of the language, as each `Name` is by its type
abbrev pub AreModulesNamed : Tables → Type 0
AreModulesNamed t = (m : ℕ) (info : ModuleInfo) → At t.modules m info → IsTokenText Name info.name

-- a certificate that a text can say is what its own line says
abbrev pub CertificateLinesReadBack : Type 0
CertificateLinesReadBack =
    (t : Tables) (cert : Cert) → MeetsTableRules t → AreModulesNamed t → FitsTables t cert
    → IsWritable cert → cert_of t (line_with_jitter t cert) ≡ Ok (contents cert)
