-- Tables that are alike are well certified alike.
use Rattle.std.proofs.Common.{◌≡◌, ℕ, ◌<◌, List, Option, Some, sym, ap, subst}
use Rattle.sot_lists.specs.Places.{At}
use Rattle.sot_lang.specs.declared.cert.Cells.{Cells}
use Rattle.sot_lang.specs.declared.cert.Cert.{Cert}
use Rattle.sot_tube.specs.Certified.{HasCells}
use Rattle.sot_typing.specs.Resolved.{NodeTable}
use Rattle.sot_law_equal_tables.specs.Places.{CertifiedAlikeButForPlaces}
use Rattle.sot_law_equal_tables.proofs.PlacelessSeen.{module_back, plant_back, node_back}
use Rattle.sot_law_equal_tables.proofs.PlacelessNodes.{coded_alike}
use Rattle.sot_law_equal_tables.proofs.PlacelessModules.{own_node_alike, own_output_alike, own_plant_alike, own_inputs_alike, periods_alike, outputs_alike}
use Rattle.sot_law_equal_tables.proofs.PlacelessCells.{trap_free_alike, closed_cell_alike, reach_cell_alike}

cells_back : (c d : Cert) → c.modules.items ≡ d.modules.items → (m : ℕ) (cells : Cells) → HasCells d m cells → HasCells c m cells
cells_back c d entries m cells has = subst (λ (xs : List (Option Cells)). At xs m (Some cells)) (sym entries) has

pub certified_alike : CertifiedAlikeButForPlaces
certified_alike t u jitter c d same cells_same well = record {
  node_jitter = λ n node at.
      let x = node_back t u same n node at in
      subst (λ k. jitter < k) (ap (λ (s : NodeTable). s.period) x.2) (well.node_jitter n x.0 x.1);
  module_jitter = λ m a at. well.module_jitter m a (module_back t u same m a at);
  own_node = own_node_alike t u same well.own_node;
  own_output = own_output_alike t u same well.own_output;
  own_plant = own_plant_alike t u same well.own_plant;
  own_inputs = λ m a at. own_inputs_alike t u same a (well.own_inputs m a (module_back t u same m a at));
  entries = λ m a at.
      let entry = well.entries m a (module_back t u same m a at) in
      (entry.0, cells_back d c (sym cells_same) m entry.0 entry.1);
  periods = λ m a at. periods_alike t u same a (well.periods m a (module_back t u same m a at));
  outputs = λ m a at. outputs_alike t u same a (well.outputs m a (module_back t u same m a at));
  boxes = λ m a at. well.boxes m a (module_back t u same m a at);
  trap_free = λ n node acts at coded.
      let x = node_back t u same n node at in
      let us = coded_alike x.0 node acts x.2 coded in
      trap_free_alike t u same x.0 node us.0 acts x.2 us.2 (well.trap_free n x.0 us.0 x.1 us.1);
  closed_cover = λ m a cells at has. well.closed_cover m a cells (module_back t u same m a at) (cells_back c d cells_same m cells has);
  closed_cells = λ m a plant sc acts cells i cell at at_p at_s coded has at_i.
      let x = plant_back t u same a.plant plant at_p in
      let v = node_back t u same a.sc sc at_s in
      let us = coded_alike v.0 sc acts v.2 coded in
      closed_cell_alike t u same x.0 plant x.2 a jitter cell v.0 sc v.2 us.0 acts us.2
      (well.closed_cells m a x.0 v.0 us.0 cells i cell (module_back t u same m a at) x.1 v.1 us.1 (cells_back c d cells_same m cells has) at_i);
  reach_cover = λ m a cells at has. well.reach_cover m a cells (module_back t u same m a at) (cells_back c d cells_same m cells has);
  reach_cells = λ m a plant cells i cell at at_p has at_i.
      let x = plant_back t u same a.plant plant at_p in
      reach_cell_alike t u same x.0 plant x.2 a jitter cell
      (well.reach_cells m a x.0 cells i cell (module_back t u same m a at) x.1 (cells_back c d cells_same m cells has) at_i);
}
