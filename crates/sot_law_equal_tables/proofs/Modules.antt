-- How modules are put together, and their shape, where tables look the same: such tables are alike.
use Rattle.std.proofs.Common.{◌≡◌, ℕ, ap}
use Rattle.sot_lang.specs.declared.tables.PlantInfo.{PlantInfo}
use Rattle.sot_lang.specs.declared.tables.NodeInfo.{NodeInfo}
use Rattle.sot_lang.specs.declared.tables.ModuleInfo.{ModuleInfo}
use Rattle.sot_lang.specs.Tables.{Tables}
use Rattle.sot_tube.specs.Topics.{WritesTopic, IsInputTopic}
use Rattle.sot_tube.specs.Composition.{ArePartners, NoSharedNode, NoSharedOutput, NoSharedPlant, NoForeignInput}
use Rattle.sot_tube.specs.Modules.{AreShortPeriods, AreSameOutputs}
use Rattle.sot_typing.specs.Resolved.{plant_seen, node_seen, tables_seen}
use Rattle.sot_law_equal_tables.specs.UnplacedTables.{unplaced_plant_table, unplaced_node_table, unplaced_tables}
use Rattle.sot_law_equal_tables.proofs.PlacelessModules as placeless

module _ (t u : Tables) (same : tables_seen t ≡ tables_seen u) where
  pub writes_alike : (x y : NodeInfo) (n : ℕ) → node_seen x ≡ node_seen y → WritesTopic t x n → WritesTopic u y n
  writes_alike x y n alike = placeless.writes_alike t u (ap unplaced_tables same) x y n (ap unplaced_node_table alike)

  pub input_alike : (x y : PlantInfo) (n : ℕ) → plant_seen x ≡ plant_seen y → IsInputTopic t x n → IsInputTopic u y n
  input_alike x y n alike = placeless.input_alike t u (ap unplaced_tables same) x y n (ap unplaced_plant_table alike)

  pub partners_alike : (n n' : ℕ) → ArePartners t n n' → ArePartners u n n'
  partners_alike = placeless.partners_alike t u (ap unplaced_tables same)

  pub own_node_alike : NoSharedNode t → NoSharedNode u
  own_node_alike = placeless.own_node_alike t u (ap unplaced_tables same)

  pub own_plant_alike : NoSharedPlant t → NoSharedPlant u
  own_plant_alike = placeless.own_plant_alike t u (ap unplaced_tables same)

  pub own_output_alike : NoSharedOutput t → NoSharedOutput u
  own_output_alike = placeless.own_output_alike t u (ap unplaced_tables same)

  pub own_inputs_alike : (a : ModuleInfo) → NoForeignInput t a → NoForeignInput u a
  own_inputs_alike = placeless.own_inputs_alike t u (ap unplaced_tables same)

  pub periods_alike : (a : ModuleInfo) → AreShortPeriods t a → AreShortPeriods u a
  periods_alike = placeless.periods_alike t u (ap unplaced_tables same)

  pub outputs_alike : (a : ModuleInfo) → AreSameOutputs t a → AreSameOutputs u a
  outputs_alike = placeless.outputs_alike t u (ap unplaced_tables same)
