-- What tables that are alike have in common: scalars and modules are equal, and at each place stand a plant and a node that differ
-- in places of a text alone.
use Rattle.std.proofs.Common.{◌≡◌, ℕ, List, map, length, refl, sym, ap, ◌∙◌, subst}
use Rattle.sot_lists.specs.Places.{At}
use Rattle.sot_lists.proofs.Places.{at_map, at_mapped}
use Rattle.sot_lang.specs.declared.tables.ScalarInfo.{ScalarInfo}
use Rattle.sot_lang.specs.declared.tables.PlantInfo.{PlantInfo}
use Rattle.sot_lang.specs.declared.tables.NodeInfo.{NodeInfo}
use Rattle.sot_lang.specs.declared.tables.ModuleInfo.{ModuleInfo}
use Rattle.sot_lang.specs.Tables.{Tables}
use Rattle.sot_lang.specs.declared.act.Act.{Act}
use Rattle.sot_typing.specs.Formulas.{Deeds, deeds_view}
use Rattle.sot_typing.specs.Resolved.{ProgramTables, PlantTable, NodeTable, plant_seen, node_seen}
use Rattle.sot_law_equal_tables.specs.UnplacedTables.{unplaced_deeds, unplaced_plant_table, unplaced_node_table, AreAlike}
use Rattle.sot_law_equal_tables.proofs.Lists.{length_same, map_same}

-- a plant, a node and statements without memory and without places
abbrev pub bare_plant : PlantInfo → PlantTable
bare_plant i = unplaced_plant_table (plant_seen i)

abbrev pub bare_node : NodeInfo → NodeTable
bare_node i = unplaced_node_table (node_seen i)

abbrev pub bare_deeds : List Act → Deeds
bare_deeds acts = unplaced_deeds (deeds_view acts)

bare_plants : (xs : List PlantInfo) → map unplaced_plant_table (map plant_seen xs) ≡ map bare_plant xs
bare_plants xs = map_same plant_seen unplaced_plant_table bare_plant (λ x. refl) xs

bare_nodes : (xs : List NodeInfo) → map unplaced_node_table (map node_seen xs) ≡ map bare_node xs
bare_nodes xs = map_same node_seen unplaced_node_table bare_node (λ x. refl) xs

module _ (t u : Tables) (same : AreAlike t u) where
  pub scalars_same : t.scalars ≡ u.scalars
  scalars_same = ap (λ (s : ProgramTables). s.scalars) same

  pub modules_same : t.modules ≡ u.modules
  modules_same = ap (λ (s : ProgramTables). s.modules) same

  pub plants_same : map bare_plant t.plants ≡ map bare_plant u.plants
  plants_same = sym (bare_plants t.plants) ∙ ap (λ (s : ProgramTables). s.plants) same ∙ bare_plants u.plants

  pub nodes_same : map bare_node t.nodes ≡ map bare_node u.nodes
  nodes_same = sym (bare_nodes t.nodes) ∙ ap (λ (s : ProgramTables). s.nodes) same ∙ bare_nodes u.nodes

  pub plant_count_same : length t.plants ≡ length u.plants
  plant_count_same = sym (length_same bare_plant t.plants) ∙ ap length plants_same ∙ length_same bare_plant u.plants

  -- a scalar of the second tables is one of the first
  pub scalar_back : (k : ℕ) (x : ScalarInfo) → At u.scalars k x → At t.scalars k x
  scalar_back k x at = subst (λ (xs : List ScalarInfo). At xs k x) (sym scalars_same) at

  -- so is a module
  pub module_back : (m : ℕ) (a : ModuleInfo) → At u.modules m a → At t.modules m a
  module_back m a at = subst (λ (xs : List ModuleInfo). At xs m a) (sym modules_same) at

  -- a plant of the second tables differs in places alone from the one at its place in the first
  pub plant_back : (k : ℕ) (y : PlantInfo) → At u.plants k y → (x : PlantInfo) × At t.plants k x × (bare_plant x ≡ bare_plant y)
  plant_back k y at =
      let P : List PlantTable → Type 0 = λ l. At l k (bare_plant y) in
      at_mapped bare_plant t.plants k (bare_plant y) (subst P (sym plants_same) (at_map bare_plant u.plants k y at))

  -- so does a node
  pub node_back : (n : ℕ) (y : NodeInfo) → At u.nodes n y → (x : NodeInfo) × At t.nodes n x × (bare_node x ≡ bare_node y)
  node_back n y at =
      let P : List NodeTable → Type 0 = λ l. At l n (bare_node y) in
      at_mapped bare_node t.nodes n (bare_node y) (subst P (sym nodes_same) (at_map bare_node u.nodes n y at))
