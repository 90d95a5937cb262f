-- What it means that cells show a region.
use Rattle.std.specs.Prelude.{ℕ}
use Rattle.sot_lang.specs.declared.cert.Cert.{Cert}
use Rattle.sot_lang.specs.declared.tables.ModuleInfo.{ModuleInfo}
use Rattle.sot_lang.specs.Tables.{Tables}
use Rattle.sot_tube.specs.Verdict.{entry, boxes, cells_of}

-- a certificate shows the regions of module m: it has cells for it, both regions have a box, the
-- cells cover them, and each of them keeps the plant inside
abbrev pub IsShown : Tables → ℕ → Cert → ℕ → ModuleInfo → Type 0
IsShown p jitter cert m a =
    (entry cert m).Passes × (boxes m a).Passes × (cells_of p jitter cert m a).Passes
