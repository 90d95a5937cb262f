-- Between the crate's own functions: what cells land in, with a hull around the landings of each.
use Rattle.std.specs.Prelude.{ℕ, ℤ, ◌≡◌, ◌<◌, List, Bool, length}
use Rattle.sot_lists.specs.Places.{At}
use Rattle.sot_box.specs.Sides.{Side}
use Rattle.sot_box.specs.Boxes.{IsWithin}
use Rattle.sot_box.specs.Regions.{Covers}
use Rattle.sot_lang.specs.declared.cert.Cert.{Cert}
use Rattle.sot_lang.specs.Tables.{Tables}
use Rattle.sot_lang.specs.CertRules.{FitsTables}
use Rattle.sot_lang.specs.TableRules.{MeetsTableRules}
use Rattle.sot_tube.specs.Certified.{IsWellCertified}
use Rattle.sot_law_runs.specs.Holds.{Guarded}
use Rattle.sot_law_runs.specs.Ranks.{IsLanding, LandsIn}
use Rattle.sot_recover.specs.Sets.{IsSet}
use Rattle.sot_recover.specs.Meeting.{Meet}

-- a cell lands in the flagged cells
abbrev pub LandsInSet : Tables → Cert → ℕ → List Bool → ℕ → Type 0
LandsInSet p cert m set i = (g : Guarded p cert m) → LandsIn g (IsSet set) i

-- the hull of the cell at place i meets the cell at place j
abbrev pub MayHang : List (List Side) → List (List Side) → ℕ → ℕ → Type 0
MayHang cells hulls j i =
    (cell hull : List Side) × At cells j cell × At hulls i hull × Meet hull cell

-- a region covers each landing of a cell
abbrev pub AreLandingsCovered : {p : Tables} {cert : Cert} {m : ℕ} → Guarded p cert m → List Side
    → List (List Side) → Type 0
AreLandingsCovered g cell region = (box : List Side) → IsLanding g cell box → Covers region box

-- a box holds the landings of a cell; where firings are on time it is the landing
pub record IsHullOf {p : Tables} {cert : Cert} {m : ℕ} (g : Guarded p cert m)
    (cell hull : List Side) : Type 0 where
  pub width : length hull ≡ length cell
  pub holds : (box : List Side) (s : List ℤ) → IsLanding g cell box → IsWithin box s
      → IsWithin hull s
  pub exact : cert.jitter ≡ 0 → IsLanding g cell hull

-- the cells are the closed cells of a module, each with its hull
pub record IsGround (p : Tables) (cert : Cert) (m : ℕ) (cells hulls : List (List Side)) : Type 0
  where
    pub module_is : m < length p.modules
    pub rules : MeetsTableRules p
    pub fits : FitsTables p cert
    pub certified : IsWellCertified p cert.jitter cert
    pub cells_are : (g : Guarded p cert m) → cells ≡ g.cells.closed.boxes
    pub count : length hulls ≡ length cells
    pub hulls_are : (g : Guarded p cert m) (i : ℕ) (cell hull : List Side) → At cells i cell
        → At hulls i hull → IsHullOf g cell hull
