-- Certificates that are made for given regions, and their programs' text.
use Rattle.std.specs.Prelude.{◌≡◌, ℕ, List, Ok, None}
use Rattle.sot_sections.specs.declared.mission.Need.TheVariants.{Check}
use Rattle.sot_sections.specs.Sections.{split_of}
use Rattle.sot_syntax_tree.specs.Trees.{Program}
use Rattle.sot_syntax_tree.specs.Formed.{IsFormed}
use Rattle.sot_typing.specs.Resolved.{AreTables}
use Rattle.sot_print.specs.Canonical.{canonical}
use Rattle.sot_certified_text.specs.Missions.{mission_text}
use Rattle.sot_box.specs.Sides.{Side}
use Rattle.sot_box.specs.BoxList.{BoxList}
use Rattle.sot_lists.specs.Places.{At}
use Rattle.sot_lang.specs.declared.cert.Cert.{Cert}
use Rattle.sot_lang.specs.declared.tables.ModuleInfo.{ModuleInfo}
use Rattle.sot_lang.specs.Tables.{Tables}
use Rattle.sot_lang.specs.TableRules.{MeetsTableRules}
use Rattle.sot_lang.specs.CertRules.{FitsTables}
use Rattle.sot_cert.specs.CertFormat.{cert_of, contents}
use Rattle.sot_certify.specs.Certifying.{IsMadeFor}
use Rattle.sot_certified_text.specs.CertText.{certificate_line}
use Rattle.sot_certified_text.specs.ReadBack.{AreShort, IsWritable}
use Rattle.sot_certified_text.specs.Lines.{AreModulesNamed}

-- the boxes of a region have short sides
abbrev pub HasShortBoxes : BoxList → Type 0
HasShortBoxes region = (i : ℕ) (box : List Side) → At region.boxes i box → AreShort box

-- the regions of all modules have
abbrev pub HaveShortRegions : Tables → Type 0
HaveShortRegions t =
    (m : ℕ) (a : ModuleInfo) → At t.modules m a → HasShortBoxes a.safe × HasShortBoxes a.safer

-- the tables of a formed program have short regions, and its modules' names are words
abbrev pub TablesHaveShortRegions : Type 0
TablesHaveShortRegions =
    (p : Program) (t : Tables) → IsFormed p → AreTables p t → HaveShortRegions t × AreModulesNamed t

-- a text can say each certificate that is made for short regions
abbrev pub MadeCertificatesAreWritable : Type 0
MadeCertificatesAreWritable =
    (t : Tables) (cert : Cert) → HaveShortRegions t → IsMadeFor t cert → IsWritable cert

-- a certificate that is made for the tables of a formed program, and the text with that
-- certificate: it divides into the program's canonical text and the certificate's line, which says
-- the certificate
abbrev pub CertifiedTextsSay : Type 0
CertifiedTextsSay =
    (p : Program) (t : Tables) (cert : Cert) → IsFormed p → AreTables p t → MeetsTableRules t
    → FitsTables t cert → IsMadeFor t cert
    → (split_of (mission_text (canonical p) (certificate_line t cert)) Check
    ≡ Ok (record {
      program = canonical p;
      cert = certificate_line t cert;
      flight = None;
      trace = None;
    }))
    × (cert_of t (certificate_line t cert) ≡ Ok (contents cert))
