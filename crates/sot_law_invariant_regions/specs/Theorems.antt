-- What held regions are for.
use Rattle.std.specs.Prelude.{ℕ}
use Rattle.sot_lists.specs.Places.{At}
use Rattle.sot_lang.specs.declared.cert.Cert.{Cert}
use Rattle.sot_lang.specs.declared.tables.ModuleInfo.{ModuleInfo}
use Rattle.sot_lang.specs.Tables.{Tables}
use Rattle.sot_lang.specs.TableRules.{MeetsTableRules}
use Rattle.sot_tube.specs.Certified.{IsWellCertified}
use Rattle.sot_law_invariant_regions.specs.Following.{IsHeldRegion}

-- the safe region of each module of a program that has a certificate is one whose points' held
-- tubes stay in it
abbrev pub CertifiedRegionsAreHeld : Type 0
CertifiedRegionsAreHeld =
    (p : Tables) (jitter : ℕ) (cert : Cert) (m : ℕ) (a : ModuleInfo) → MeetsTableRules p
    → IsWellCertified p jitter cert → At p.modules m a → IsHeldRegion p jitter a a.safe.boxes
