-- The hulls of safe regions, coded nodes without traps, and the cells of modules, where tables are alike.
use Rattle.std.proofs.Common.{◌≡◌, ℕ, ◌+◌, ◌*◌, List, [], ◌∷◌, map, ap, ◌∙◌, subst}
use Rattle.std.specs.Prelude.{if◌then◌else◌, ◌==◌, slice_set, slice_index_or}
use Rattle.sot_box.specs.Sides.{Side}
use Rattle.sot_box.specs.Regions.{IsHull}
use Rattle.sot_lang.specs.declared.act.Act.{Act}
use Rattle.sot_lang.specs.declared.tables.ScalarInfo.{ScalarInfo}
use Rattle.sot_lang.specs.declared.tables.PlantInfo.{PlantInfo}
use Rattle.sot_lang.specs.declared.tables.NodeInfo.{NodeInfo}
use Rattle.sot_lang.specs.declared.tables.ModuleInfo.{ModuleInfo}
use Rattle.sot_lang.specs.Tables.{Tables}
use Rattle.sot_lang.specs.Ranges.{range_of}
use Rattle.sot_lang.specs.SafeRegions.{safe_of, AllHulls}
use Rattle.sot_iv.specs.declared.drafted.Drafted.{Drafted}
use Rattle.sot_iv.specs.BodyIntervals.{Intervals}
use Rattle.sot_iv.specs.TrapFree.{IsTrapFree}
use Rattle.sot_tube.specs.Tubes.{TubeInside}
use Rattle.sot_tube.specs.Certified.{sure_interval, command_interval, command_intervals, DraftsFrom, IsClosedCell, IsReachCell}
use Rattle.sot_typing.specs.Resolved.{NodeTable}
use Rattle.sot_law_equal_tables.proofs.Plants.{along}
use Rattle.sot_law_equal_tables.specs.UnplacedTables.{AreAlike}
use Rattle.sot_law_equal_tables.proofs.PlacelessSeen.{bare_plant, bare_node, bare_deeds, scalars_same, modules_same, plant_count_same, plant_back}
use Rattle.sot_law_equal_tables.proofs.PlacelessPlants.{tube_alike, any_tube_alike}
use Rattle.sot_law_equal_tables.proofs.PlacelessNodes.{execution_alike}

-- commands are told by scalars
command_same : (t u : Tables) → t.scalars ≡ u.scalars → (ws : List ℕ) (ds : List Drafted) (k : ℕ) → command_interval t ws ds k ≡ command_interval u ws ds k
command_same t u scalars [] ds k = ap (λ (infos : List ScalarInfo). range_of infos k) scalars
command_same t u scalars (w ∷ ws) [] k = ap (λ (infos : List ScalarInfo). range_of infos k) scalars
command_same t u scalars (w ∷ ws) (d ∷ ds) k = λ i. if w == k then sure_interval (range_of (scalars i) k) d else command_same t u scalars ws ds k i

module _ (t u : Tables) (same : AreAlike t u) where
  pub hulls_alike : (hulls : List (List Side)) → AllHulls t hulls → AllHulls u hulls
  hulls_alike hulls all = (
    all.0 ∙ plant_count_same t u same,
    λ k plant at.
        let x = plant_back t u same k plant at in
        subst (λ (infos : List ModuleInfo). IsHull (safe_of infos k) (slice_index_or hulls k [])) (modules_same t u same) (all.1 k x.0 x.1),
  )

  -- a body that looks as one without traps has none
  pub trap_free_alike : (x y : NodeInfo) (us acts : List Act) → bare_node x ≡ bare_node y → bare_deeds us ≡ bare_deeds acts → IsTrapFree t x us
      → IsTrapFree u y acts
  trap_free_alike x y us acts alike deeds free =
      (free.0, hulls_alike free.0 free.1, (free.2.0, execution_alike t u same x y alike us acts free.0 free.2.0 deeds free.2.1))

  module _ (x y : PlantInfo) (alike : bare_plant x ≡ bare_plant y) (a : ModuleInfo) (jitter : ℕ) (cell : List Side) where
    pub reach_cell_alike : IsReachCell t jitter a x cell → IsReachCell u jitter a y cell
    reach_cell_alike reach = any_tube_alike t u same x y alike a.safe.boxes cell (2 * (a.period + jitter)) reach

    module _ (v w : NodeInfo) (nodes : bare_node v ≡ bare_node w) (us acts : List Act) (deeds : bare_deeds us ≡ bare_deeds acts) where
      pub commands_alike : (draft : List Drafted) → command_intervals t x v draft ≡ command_intervals u y w draft
      commands_alike draft =
          let command : (k : ℕ) → command_interval t v.writes.items draft k ≡ command_interval u w.writes.items draft k =
          λ k. command_same t u (scalars_same t u same) v.writes.items draft k ∙ ap (λ (n : NodeTable). command_interval u n.writes draft k) nodes
          in
          λ i. map (λ k. command k i) (alike i).inputs

      pub drafts_alike : (fired : Intervals) → DraftsFrom t a v us cell fired → DraftsFrom u a w acts cell fired
      drafts_alike fired drafts = record {
        hulls = drafts.hulls;
        are = hulls_alike drafts.hulls drafts.are;
        runs = execution_alike t u same v w nodes us acts (slice_set drafts.hulls a.plant cell) fired deeds drafts.runs;
      }

      held_alike : (draft : List Drafted) → TubeInside t x (command_intervals t x v draft) a.safe.boxes cell (v.period + jitter)
          → TubeInside u y (command_intervals u y w draft) a.safe.boxes cell (w.period + jitter)
      held_alike draft tube =
          let there = tube_alike t u same x y alike (command_intervals t x v draft) a.safe.boxes cell (v.period + jitter) tube in
          along (λ i. TubeInside u y (commands_alike draft i) a.safe.boxes cell ((nodes i).period + jitter)) there

      pub closed_cell_alike : IsClosedCell t jitter a x v us cell → IsClosedCell u jitter a y w acts cell
      closed_cell_alike closed = record {
        covered = closed.covered;
        fired = closed.fired;
        drafts = drafts_alike closed.fired closed.drafts;
        stays = held_alike closed.fired.draft closed.stays;
      }
