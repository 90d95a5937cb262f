-- Modules of programs that look the same but for their modules.
use Rattle.std.specs.Prelude.{◌≡◌, map}
use Rattle.sot_lang.specs.declared.tables.PlantInfo.{PlantInfo}
use Rattle.sot_lang.specs.declared.tables.NodeInfo.{NodeInfo}
use Rattle.sot_lang.specs.declared.tables.ModuleInfo.{ModuleInfo}
use Rattle.sot_lang.specs.Tables.{Tables}
use Rattle.sot_typing.specs.Resolved.{PlantTable, NodeTable, plant_seen, node_seen}
use Rattle.sot_law_equal_tables.specs.UnplacedTables.{unplaced_plant_table, unplaced_node_table}
use Rattle.sot_law_invariant_regions.specs.Alone.{IsAlone, RunAlike}

-- a plant and a node without where their parts stand in a text
abbrev pub plant_look : PlantInfo → PlantTable
plant_look x = unplaced_plant_table (plant_seen x)

abbrev pub node_look : NodeInfo → NodeTable
node_look x = unplaced_node_table (node_seen x)

-- the scalars are the same, and the plants and nodes look the same, place by place
pub record LookAlike (t u : Tables) : Type 0 where
  pub scalars : t.scalars ≡ u.scalars
  pub plants : map plant_look t.plants ≡ map plant_look u.plants
  pub nodes : map node_look t.nodes ≡ map node_look u.nodes

-- two modules have the same plant and the same safe node
abbrev pub HaveOnePlant : ModuleInfo → ModuleInfo → Type 0
HaveOnePlant a b = (a.plant ≡ b.plant) × (a.sc ≡ b.sc)

abbrev pub ModulesRunAlike : Type 0
ModulesRunAlike =
    (t u : Tables) (a b : ModuleInfo) → LookAlike t u → HaveOnePlant a b → RunAlike t u a b

abbrev pub ModulesStayAlone : Type 0
ModulesStayAlone =
    (t u : Tables) (a b : ModuleInfo) → LookAlike t u → HaveOnePlant a b → IsAlone t a → IsAlone u b
