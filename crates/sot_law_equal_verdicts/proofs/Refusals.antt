-- A checker refuses tables that look the same with the same refusal.
use Rattle.std.proofs.Common.{◌≡◌, ℕ, List, Option, Some, refl, sym, subst}
use Rattle.sot_lists.specs.Places.{At}
use Rattle.sot_box.specs.Sides.{Side}
use Rattle.sot_lang.specs.declared.act.Act.{Act}
use Rattle.sot_lang.specs.declared.cert.Cells.{Cells}
use Rattle.sot_lang.specs.declared.cert.Cert.{Cert}
use Rattle.sot_lang.specs.declared.tables.PlantInfo.{PlantInfo}
use Rattle.sot_lang.specs.declared.tables.NodeInfo.{NodeInfo}
use Rattle.sot_lang.specs.declared.tables.ModuleInfo.{ModuleInfo}
use Rattle.sot_lang.specs.Tables.{Tables}
use Rattle.sot_lang.specs.TableRules.{IsCoded}
use Rattle.sot_tube.specs.Certified.{HasCells}
use Rattle.sot_tube.specs.Checks.{Check, and_then, for_each, of_the}
use Rattle.sot_tube.specs.Verdict.{entry, periods, outputs, boxes, shape, composition, code, closed_cover, closed_cell, reach_cover, reach_cell, cell_checks}
use Rattle.sot_tube.specs.Verdict.{cells_of, verdict}
use Rattle.sot_typing.specs.Formulas.{deeds_view}
use Rattle.sot_typing.specs.Resolved.{plant_seen, node_seen, tables_seen}
use Rattle.sot_law_equal_tables.proofs.Seen.{plant_back, node_back}
use Rattle.sot_law_equal_tables.proofs.Nodes.{coded_alike}
use Rattle.sot_law_equal_tables.proofs.Cells.{closed_cell_alike, reach_cell_alike, closed_leaves_alike, reach_leaves_alike}
use Rattle.sot_law_equal_verdicts.specs.Laws.{RefusalsAlike}
use Rattle.sot_law_equal_verdicts.proofs.Carried.{Carried, both_carried, each_carried, the_carried}
use Rattle.sot_law_equal_verdicts.proofs.Conditions.{periods_carried, outputs_carried, boxes_carried, modules_carried, nodes_carried, composition_carried}

-- what does not change says the same
same_carried : (a : Check) → Carried a a
same_carried a = record { passes = λ p. p; refuses = λ r h. h }

module _ (t u : Tables) (same : tables_seen t ≡ tables_seen u) (jitter : ℕ) (m : ℕ) (a : ModuleInfo) (x y : PlantInfo) (plants : plant_seen x ≡ plant_seen y)
  where
    reach_carried : (i : ℕ) (cell : List Side) → Carried (reach_cell t jitter m a x i cell) (reach_cell u jitter m a y i cell)
    reach_carried i cell = record {
      passes = reach_cell_alike t u same x y plants a jitter cell;
      refuses = λ r h. (h.0, reach_leaves_alike t u same x y plants a jitter cell h.0 h.1, h.2);
    }

    module _ (v w : NodeInfo) (nodes : node_seen v ≡ node_seen w) (us acts : List Act) (deeds : deeds_view us ≡ deeds_view acts) where
      closed_carried : (i : ℕ) (cell : List Side) → Carried (closed_cell t jitter m a x v us i cell) (closed_cell u jitter m a y w acts i cell)
      closed_carried i cell = record {
        passes = closed_cell_alike t u same x y plants a jitter cell v w nodes us acts deeds;
        refuses = λ r h. (h.0, closed_leaves_alike t u same x y plants a jitter cell v w nodes us acts deeds h.0 h.1, h.2);
      }

      same_cells : (cells : List (List Side)) (f g : ℕ → List Side → Check) → ((i : ℕ) (cell : List Side) → Carried (f i cell) (g i cell))
          → Carried (for_each cells f) (for_each cells g)
      same_cells cells f g each =
          each_carried (λ b c. b ≡ c) cells cells f g
          (λ i b at. (b, at, refl))
          (λ i b at. (b, at, refl))
          (λ i b c one. subst (λ z. Carried (f i b) (g i z)) one (each i b))

      checks_carried : (cells : Cells) → Carried (cell_checks t jitter m a x v us cells) (cell_checks u jitter m a y w acts cells)
      checks_carried cells =
          both_carried (closed_cover m a cells) (and_then (for_each cells.closed.boxes (closed_cell t jitter m a x v us))
          (and_then (reach_cover m a cells) (for_each cells.reach.boxes (reach_cell t jitter m a x))))
          (closed_cover m a cells) (and_then (for_each cells.closed.boxes (closed_cell u jitter m a y w acts))
          (and_then (reach_cover m a cells) (for_each cells.reach.boxes (reach_cell u jitter m a y))))
          (same_carried (closed_cover m a cells))
          (both_carried (for_each cells.closed.boxes (closed_cell t jitter m a x v us))
          (and_then (reach_cover m a cells) (for_each cells.reach.boxes (reach_cell t jitter m a x)))
          (for_each cells.closed.boxes (closed_cell u jitter m a y w acts))
          (and_then (reach_cover m a cells) (for_each cells.reach.boxes (reach_cell u jitter m a y)))
          (same_cells cells.closed.boxes (closed_cell t jitter m a x v us) (closed_cell u jitter m a y w acts) closed_carried)
          (both_carried (reach_cover m a cells) (for_each cells.reach.boxes (reach_cell t jitter m a x))
          (reach_cover m a cells) (for_each cells.reach.boxes (reach_cell u jitter m a y))
          (same_carried (reach_cover m a cells))
          (same_cells cells.reach.boxes (reach_cell t jitter m a x) (reach_cell u jitter m a y) reach_carried)))

module _ (t u : Tables) (same : tables_seen t ≡ tables_seen u) (jitter : ℕ) (c d : Cert) (entries : c.modules.items ≡ d.modules.items) where
  cells_forth : (m : ℕ) (cells : Cells) → HasCells c m cells → HasCells d m cells
  cells_forth m cells has = subst (λ (xs : List (Option Cells)). At xs m (Some cells)) entries has

  cells_back : (m : ℕ) (cells : Cells) → HasCells d m cells → HasCells c m cells
  cells_back m cells has = subst (λ (xs : List (Option Cells)). At xs m (Some cells)) (sym entries) has

  entry_carried : (m : ℕ) → Carried (entry c m) (entry d m)
  entry_carried m = record {
    passes = λ p. (p.0, cells_forth m p.0 p.1);
    refuses = λ r h. (λ cells has. h.0 cells (cells_back m cells has), h.1);
  }

  shape_carried : (m : ℕ) (a : ModuleInfo) → Carried (shape t c m a) (shape u d m a)
  shape_carried m a =
      both_carried (entry c m) (and_then (periods t m a) (and_then (outputs t m a) (boxes m a)))
      (entry d m) (and_then (periods u m a) (and_then (outputs u m a) (boxes m a)))
      (entry_carried m)
      (both_carried (periods t m a) (and_then (outputs t m a) (boxes m a)) (periods u m a) (and_then (outputs u m a) (boxes m a))
      (periods_carried t u same m a)
      (both_carried (outputs t m a) (boxes m a) (outputs u m a) (boxes m a) (outputs_carried t u same m a) (boxes_carried t u same m a)))

  named_carried : (m : ℕ) (a : ModuleInfo) (x y : PlantInfo) → plant_seen x ≡ plant_seen y → (v w : NodeInfo) → node_seen v ≡ node_seen w → (us acts : List Act)
      → deeds_view us ≡ deeds_view acts
      → Carried (of_the (HasCells c m) (cell_checks t jitter m a x v us)) (of_the (HasCells d m) (cell_checks u jitter m a y w acts))
  named_carried m a x y plants v w nodes us acts deeds =
      the_carried (HasCells c m) (HasCells d m) (λ b e. b ≡ e) (cell_checks t jitter m a x v us) (cell_checks u jitter m a y w acts)
      (λ b has. (b, cells_forth m b has, refl))
      (λ b has. (b, cells_back m b has, refl))
      (λ b e one. subst (λ z. Carried (cell_checks t jitter m a x v us b) (cell_checks u jitter m a y w acts z)) one
      (checks_carried t u same jitter m a x y plants v w nodes us acts deeds b))

  coded_carried : (m : ℕ) (a : ModuleInfo) (x y : PlantInfo) → plant_seen x ≡ plant_seen y → (v w : NodeInfo) → node_seen v ≡ node_seen w
      → Carried (of_the (IsCoded v) (λ us. of_the (HasCells c m) (cell_checks t jitter m a x v us)))
      (of_the (IsCoded w) (λ acts. of_the (HasCells d m) (cell_checks u jitter m a y w acts)))
  coded_carried m a x y plants v w nodes =
      the_carried (IsCoded v) (IsCoded w) (λ us acts. deeds_view us ≡ deeds_view acts)
      (λ us. of_the (HasCells c m) (cell_checks t jitter m a x v us)) (λ acts. of_the (HasCells d m) (cell_checks u jitter m a y w acts))
      (λ us coded. (let z = coded_alike w v us (sym nodes) coded in (z.0, z.1, sym z.2)))
      (λ acts coded. coded_alike v w acts nodes coded)
      (named_carried m a x y plants v w nodes)

  cells_carried : (m : ℕ) (a : ModuleInfo) → Carried (cells_of t jitter c m a) (cells_of u jitter d m a)
  cells_carried m a =
      the_carried (At t.plants a.plant) (At u.plants a.plant) (λ x y. plant_seen x ≡ plant_seen y)
      (λ x. of_the (At t.nodes a.sc) (λ v. of_the (IsCoded v) (λ us. of_the (HasCells c m) (cell_checks t jitter m a x v us))))
      (λ y. of_the (At u.nodes a.sc) (λ w. of_the (IsCoded w) (λ acts. of_the (HasCells d m) (cell_checks u jitter m a y w acts))))
      (λ x at. (let y = plant_back u t (sym same) a.plant x at in (y.0, y.1, sym y.2)))
      (λ y at. plant_back t u same a.plant y at)
      (λ x y plants.
      the_carried (At t.nodes a.sc) (At u.nodes a.sc) (λ v w. node_seen v ≡ node_seen w)
      (λ v. of_the (IsCoded v) (λ us. of_the (HasCells c m) (cell_checks t jitter m a x v us)))
      (λ w. of_the (IsCoded w) (λ acts. of_the (HasCells d m) (cell_checks u jitter m a y w acts)))
      (λ v at. (let w = node_back u t (sym same) a.sc v at in (w.0, w.1, sym w.2)))
      (λ w at. node_back t u same a.sc w at)
      (coded_carried m a x y plants))

  verdict_carried : Carried (verdict t jitter c) (verdict u jitter d)
  verdict_carried =
      both_carried (composition t) (and_then (for_each t.modules (shape t c)) (and_then (for_each t.nodes (code t)) (for_each t.modules (cells_of t jitter c))))
      (composition u) (and_then (for_each u.modules (shape u d)) (and_then (for_each u.nodes (code u)) (for_each u.modules (cells_of u jitter d))))
      (composition_carried t u same)
      (both_carried (for_each t.modules (shape t c)) (and_then (for_each t.nodes (code t)) (for_each t.modules (cells_of t jitter c)))
      (for_each u.modules (shape u d)) (and_then (for_each u.nodes (code u)) (for_each u.modules (cells_of u jitter d)))
      (modules_carried t u same (shape t c) (shape u d) shape_carried)
      (both_carried (for_each t.nodes (code t)) (for_each t.modules (cells_of t jitter c)) (for_each u.nodes (code u))
      (for_each u.modules (cells_of u jitter d))
      (nodes_carried t u same)
      (modules_carried t u same (cells_of t jitter c) (cells_of u jitter d) cells_carried)))

pub refusals_alike : RefusalsAlike
refusals_alike t u c d r same jitter entries refuses =
    subst (λ j. (verdict u j d).Refuses r) jitter ((verdict_carried t u same c.jitter c d entries).refuses r refuses)
