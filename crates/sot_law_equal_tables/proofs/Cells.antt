-- Coded nodes without traps and the cells of modules, where tables look the same. That these hold alike follows from tables being
-- alike; with which evidence they fail is the same where tables look the same.
use Rattle.std.proofs.Common.{◌≡◌, ℕ, ◌+◌, ◌*◌, List, inl, inr, ⊎_elim, ap}
use Rattle.sot_box.specs.Sides.{Side}
use Rattle.sot_lang.specs.declared.act.Act.{Act}
use Rattle.sot_lang.specs.declared.tables.PlantInfo.{PlantInfo}
use Rattle.sot_lang.specs.declared.tables.NodeInfo.{NodeInfo}
use Rattle.sot_lang.specs.declared.tables.ModuleInfo.{ModuleInfo}
use Rattle.sot_lang.specs.Tables.{Tables}
use Rattle.sot_lang.specs.SafeRegions.{AllHulls}
use Rattle.sot_iv.specs.declared.drafted.Drafted.{Drafted}
use Rattle.sot_iv.specs.TrapFree.{IsTrapFree}
use Rattle.sot_tube.specs.declared.leave.Leave.{Leave}
use Rattle.sot_tube.specs.Leaves.{TubeLeaves, AnyTubeLeaves}
use Rattle.sot_tube.specs.Verdict.{ClosedCellLeaves}
use Rattle.sot_tube.specs.Certified.{command_intervals, IsClosedCell, IsReachCell}
use Rattle.sot_typing.specs.Formulas.{deeds_view}
use Rattle.sot_typing.specs.Resolved.{plant_seen, node_seen, tables_seen}
use Rattle.sot_law_equal_tables.specs.UnplacedTables.{unplaced_deeds, unplaced_plant_table, unplaced_node_table, unplaced_tables}
use Rattle.sot_law_equal_tables.proofs.Plants.{along, tube_leaves_alike, any_tube_leaves_alike}
use Rattle.sot_law_equal_tables.proofs.PlacelessCells as placeless

module _ (t u : Tables) (same : tables_seen t ≡ tables_seen u) where
  pub hulls_alike : (hulls : List (List Side)) → AllHulls t hulls → AllHulls u hulls
  hulls_alike = placeless.hulls_alike t u (ap unplaced_tables same)

  -- a body that looks as one without traps has none
  pub trap_free_alike : (x y : NodeInfo) (us acts : List Act) → node_seen x ≡ node_seen y → deeds_view us ≡ deeds_view acts → IsTrapFree t x us
      → IsTrapFree u y acts
  trap_free_alike x y us acts alike deeds =
      placeless.trap_free_alike t u (ap unplaced_tables same) x y us acts (ap unplaced_node_table alike) (ap unplaced_deeds deeds)

  module _ (x y : PlantInfo) (alike : plant_seen x ≡ plant_seen y) (a : ModuleInfo) (jitter : ℕ) (cell : List Side) where
    pub reach_cell_alike : IsReachCell t jitter a x cell → IsReachCell u jitter a y cell
    reach_cell_alike = placeless.reach_cell_alike t u (ap unplaced_tables same) x y (ap unplaced_plant_table alike) a jitter cell

    pub reach_leaves_alike : (leave : Leave) → AnyTubeLeaves t x a.safe.boxes cell (2 * (a.period + jitter)) leave
        → AnyTubeLeaves u y a.safe.boxes cell (2 * (a.period + jitter)) leave
    reach_leaves_alike leave leaves = any_tube_leaves_alike t u same x y alike a.safe.boxes cell (2 * (a.period + jitter)) leave leaves

    module _ (v w : NodeInfo) (nodes : node_seen v ≡ node_seen w) (us acts : List Act) (deeds : deeds_view us ≡ deeds_view acts) where
      pub closed_cell_alike : IsClosedCell t jitter a x v us cell → IsClosedCell u jitter a y w acts cell
      closed_cell_alike =
          placeless.closed_cell_alike t u (ap unplaced_tables same) x y (ap unplaced_plant_table alike) a jitter cell
          v w (ap unplaced_node_table nodes) us acts (ap unplaced_deeds deeds)

      commands_alike : (draft : List Drafted) → command_intervals t x v draft ≡ command_intervals u y w draft
      commands_alike =
          placeless.commands_alike t u (ap unplaced_tables same) x y (ap unplaced_plant_table alike) a jitter cell
          v w (ap unplaced_node_table nodes) us acts (ap unplaced_deeds deeds)

      held_leaves_alike : (draft : List Drafted) (leave : Leave) → TubeLeaves t x (command_intervals t x v draft) a.safe.boxes cell (v.period + jitter) leave
          → TubeLeaves u y (command_intervals u y w draft) a.safe.boxes cell (w.period + jitter) leave
      held_leaves_alike draft leave tube =
          let there = tube_leaves_alike t u same x y alike (command_intervals t x v draft) a.safe.boxes cell (v.period + jitter) leave tube in
          along (λ i. TubeLeaves u y (commands_alike draft i) a.safe.boxes cell ((nodes i).period + jitter) leave) there

      pub closed_leaves_alike : (leave : Leave) → ClosedCellLeaves t jitter a x v us cell leave → ClosedCellLeaves u jitter a y w acts cell leave
      closed_leaves_alike leave leaves =
          ⊎_elim
          (λ out. inl out)
          (λ (covered, fired, drafts, tube). inr (
            covered,
            fired,
            placeless.drafts_alike t u (ap unplaced_tables same) x y (ap unplaced_plant_table alike) a jitter cell
                v w (ap unplaced_node_table nodes) us acts (ap unplaced_deeds deeds) fired drafts,
            held_leaves_alike fired.draft leave tube,
          ))
          leaves
