-- What is written is read back.
use Rattle.std.specs.Prelude.{◌≡◌, ℕ, ◌≤◌, pos, negsuc, ◌≤ℤ◌, true, List, Some, Ok}
use Rattle.sot_box.specs.Sides.{Side}
use Rattle.sot_lists.specs.Places.{At}
use Rattle.sot_lang.specs.declared.cert.Cells.{Cells}
use Rattle.sot_lang.specs.declared.cert.Cert.{Cert}
use Rattle.sot_lang.specs.Tables.{Tables}
use Rattle.sot_lang.specs.TableRules.{MeetsTableRules}
use Rattle.sot_lang.specs.CertRules.{FitsTables}
use Rattle.sot_json.specs.Json.{json_of}
use Rattle.sot_cert.specs.CertFormat.{cert_of, contents}
use Rattle.sot_certified_text.specs.CertText.{data_with_jitter}

-- an interval whose ends a certificate's text may have: from -10^12 to 10^12
abbrev pub IsShort : Side → Type 0
IsShort r = (negsuc 999999999999 ≤ℤ r.lo) × (r.hi ≤ℤ pos 1000000000000)

abbrev pub AreShort : List Side → Type 0
AreShort sides = (i : ℕ) (r : Side) → At sides i r → IsShort r

-- a certificate that a text can say: a jitter of at most 999, cells of short sides, and lists that
-- have their index
pub record IsWritable (cert : Cert) : Type 0 where
  pub jitter : cert.jitter ≤ 999
  pub closed : (m i : ℕ) (cells : Cells) (cell : List Side) → At cert.modules.items m (Some cells)
      → At cells.closed.boxes i cell → AreShort cell
  pub reach : (m i : ℕ) (cells : Cells) (cell : List Side) → At cert.modules.items m (Some cells)
      → At cells.reach.boxes i cell → AreShort cell
  pub closed_settled : (m : ℕ) (cells : Cells) → At cert.modules.items m (Some cells)
      → cells.closed.settled ≡ true
  pub reach_settled : (m : ℕ) (cells : Cells) → At cert.modules.items m (Some cells)
      → cells.reach.settled ≡ true

-- bytes that are the JSON of a certificate say it
abbrev pub CertificatesReadBack : Type 0
CertificatesReadBack =
    (p : Tables) (cert : Cert) (bytes : List ℕ) → MeetsTableRules p → FitsTables p cert
    → IsWritable cert → json_of bytes ≡ Some (data_with_jitter p cert)
    → cert_of p bytes ≡ Ok (contents cert)
