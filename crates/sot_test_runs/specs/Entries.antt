-- Certificates that fit every program whose plants have these widths.
use Rattle.std.specs.Prelude.{◌≡◌, ℕ, ◌≤◌, ◌<◌, List, length, slice_index_or}
use Rattle.sot_box.specs.BoxList.{BoxList}
use Rattle.sot_lists.specs.Places.{At}
use Rattle.sot_box.specs.Sides.{Side, AreOrdered}
use Rattle.sot_lang.specs.declared.cert.Cells.{Cells}
use Rattle.sot_lang.specs.declared.cert.Cert.{Cert}
use Rattle.sot_lang.specs.declared.tables.NodeInfo.{NodeInfo}
use Rattle.sot_lang.specs.declared.tables.ModuleInfo.{ModuleInfo}
use Rattle.sot_lang.specs.Tables.{Tables}
use Rattle.sot_lang.specs.OwnerNames.{width_of}
use Rattle.sot_lang.specs.CertRules.{FitsTables}

-- a program with so many modules, whose plants have these counts of state variables, and with no
-- period of 0
pub record HasWidths (widths : List ℕ) (p : Tables) : Type 0 where
  pub modules : length p.modules ≡ length widths
  pub plants : (m : ℕ) (info : ModuleInfo) → At p.modules m info
      → width_of p.plants info.plant ≡ slice_index_or widths m 0
  pub node_periods : (n : ℕ) (node : NodeInfo) → At p.nodes n node → 0 < node.period
  pub module_periods : (m : ℕ) (info : ModuleInfo) → At p.modules m info → 0 < info.period

-- each box has so many sides, whose low ends are at most their high ends
abbrev pub AreOf : ℕ → List (List Side) → Type 0
AreOf sides boxes = (i : ℕ) (b : List Side) → At boxes i b → (length b ≡ sides) × AreOrdered b

-- at most 4,096 cells with so many sides, whose low ends are at most their high ends
pub record AreCells (sides : ℕ) (cells : BoxList) : Type 0 where
  pub width : cells.width ≡ sides
  pub boxes : length cells.boxes ≤ 4096
  pub each : AreOf sides cells.boxes

-- the cells of one module
abbrev pub AreCellsBoth : ℕ → Cells → Type 0
AreCellsBoth width cells = AreCells width cells.closed × AreCells width cells.reach

-- the certificate fits every such program
abbrev pub FitsAll : List ℕ → Cert → Type 0
FitsAll widths cert = (p : Tables) → HasWidths widths p → FitsTables p cert
