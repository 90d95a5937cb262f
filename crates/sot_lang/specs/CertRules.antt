-- What a certificate that fits a program satisfies.
use Rattle.std.specs.Prelude.{◌≡◌, ℕ, ◌≤◌, ◌<◌, List, Some, length}
use Rattle.sot_lists.specs.Places.{At}
use Rattle.sot_box.specs.BoxList.{BoxList}
use Rattle.sot_box.specs.Sides.{Side, AreOrdered}
use Rattle.sot_lang.specs.declared.tables.NodeInfo.{NodeInfo}
use Rattle.sot_lang.specs.declared.tables.ModuleInfo.{ModuleInfo}
use Rattle.sot_lang.specs.declared.cert.Cells.{Cells}
use Rattle.sot_lang.specs.declared.cert.Cert.{Cert}
use Rattle.sot_lang.specs.Tables.{Tables}
use Rattle.sot_lang.specs.OwnerNames.{width_of}

-- cells of a plant: at most 4,096, each with one side a state variable, whose low end is at most
-- its high end
pub record AreCellsOf (p : Tables) (plant : ℕ) (cells : BoxList) : Type 0 where
  pub width : cells.width ≡ width_of p.plants plant
  pub boxes : length cells.boxes ≤ 4096
  pub each : (i : ℕ) (b : List Side) → At cells.boxes i b → (length b ≡ cells.width) × AreOrdered b

-- one entry, or none, for each module, in order, with cells of the module's plant; and a jitter
-- below every period
pub record FitsTables (p : Tables) (cert : Cert) : Type 0 where
  pub entries : length cert.modules.items ≡ length p.modules
  pub closed : (m : ℕ) (info : ModuleInfo) (cells : Cells) → At p.modules m info
      → At cert.modules.items m (Some cells) → AreCellsOf p info.plant cells.closed
  pub reach : (m : ℕ) (info : ModuleInfo) (cells : Cells) → At p.modules m info
      → At cert.modules.items m (Some cells) → AreCellsOf p info.plant cells.reach
  pub node_jitter : (n : ℕ) (node : NodeInfo) → At p.nodes n node → cert.jitter < node.period
  pub module_jitter : (m : ℕ) (info : ModuleInfo) → At p.modules m info → cert.jitter < info.period
