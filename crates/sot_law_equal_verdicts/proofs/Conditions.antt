-- The conditions that speak of no cells, where tables look the same.
use Rattle.std.proofs.Common.{◌≡◌, ℕ, ◌<◌, inl, inr, ⊎_elim, List, Err, refl, sym, ap, subst}
use Rattle.sot_lang.specs.declared.act.Act.{Act}
use Rattle.sot_lang.specs.declared.tables.NodeInfo.{NodeInfo}
use Rattle.sot_lang.specs.declared.tables.ModuleInfo.{ModuleInfo}
use Rattle.sot_lang.specs.Tables.{Tables}
use Rattle.sot_lang.specs.TableRules.{IsCoded}
use Rattle.sot_iv.specs.TermIntervals.{OrMayTrap}
use Rattle.sot_iv.specs.BodyIntervals.{Intervals}
use Rattle.sot_iv.specs.TrapFree.{IsSafeExecution}
use Rattle.sot_tube.specs.Checks.{Check, and_then, for_each}
use Rattle.sot_tube.specs.Verdict.{ShareNode, ShareOutput, SharePlant, IsForeignInput, IsLonger, IsWrittenByOne, shared_node, shared_output, shared_plant}
use Rattle.sot_tube.specs.Verdict.{foreign_input, composition, periods, outputs, boxes, trap_free, code}
use Rattle.sot_typing.specs.Formulas.{deeds_view}
use Rattle.sot_typing.specs.Resolved.{NodeTable, node_seen, tables_seen}
use Rattle.sot_law_equal_tables.proofs.Seen.{module_back, plant_back, node_back}
use Rattle.sot_law_equal_tables.proofs.Plants.{along}
use Rattle.sot_law_equal_tables.proofs.Nodes.{coded_alike, execution_alike}
use Rattle.sot_law_equal_tables.proofs.Modules.{writes_alike, input_alike, partners_alike, own_node_alike, own_output_alike, own_plant_alike, own_inputs_alike}
use Rattle.sot_law_equal_tables.proofs.Modules.{periods_alike, outputs_alike}
use Rattle.sot_law_equal_tables.proofs.Cells.{hulls_alike, trap_free_alike}
use Rattle.sot_certify.specs.Conditions.{frame, without_cells}
use Rattle.sot_law_equal_verdicts.proofs.Carried.{Carried, both_carried, each_carried, the_carried, least_carried, clash_carried}

-- what is refused
module _ (t u : Tables) (same : tables_seen t ≡ tables_seen u) where
  share_node_alike : (n m m' : ℕ) → ShareNode t n m m' → ShareNode u n m m'
  share_node_alike n m m' h = (h.0, h.1, module_back u t (sym same) m h.0 h.2, module_back u t (sym same) m' h.1 h.3, h.4, h.5)

  share_plant_alike : (k m m' : ℕ) → SharePlant t k m m' → SharePlant u k m m'
  share_plant_alike k m m' h = (h.0, h.1, module_back u t (sym same) m h.0 h.2, module_back u t (sym same) m' h.1 h.3, h.4, h.5)

  share_output_alike : (k n n' : ℕ) → ShareOutput t k n n' → ShareOutput u k n n'
  share_output_alike k n n' h =
      let x = node_back u t (sym same) n h.0 h.2 in
      let z = node_back u t (sym same) n' h.1 h.3 in (
        x.0,
        z.0,
        x.1,
        z.1,
        writes_alike t u same h.0 x.0 k (sym x.2) h.4,
        writes_alike t u same h.1 z.0 k (sym z.2) h.5,
        λ p.
            h.6 (partners_alike u t (sym same) n n' p),
      )

  foreign_alike : (a : ModuleInfo) (k : ℕ) → IsForeignInput t a k → IsForeignInput u a k
  foreign_alike a k h =
      let x = plant_back u t (sym same) a.plant h.0 h.2 in
      let z = node_back u t (sym same) a.sc h.1 h.3 in
      (x.0, z.0, x.1, z.1, input_alike t u same h.0 x.0 k (sym x.2) h.4, λ w. h.5 (writes_alike u t (sym same) z.0 h.1 k z.2 w))

  longer_alike : (a : ModuleInfo) (n : ℕ) → IsLonger t a n → IsLonger u a n
  longer_alike a n h =
      let x = node_back u t (sym same) n h.0 h.1 in
      (x.0, x.1, subst (λ k. a.period < k) (ap (λ (s : NodeTable). s.period) (sym x.2)) h.2)

  by_one_alike : (a : ModuleInfo) (k : ℕ) → IsWrittenByOne t a k → IsWrittenByOne u a k
  by_one_alike a k h =
      let x = node_back u t (sym same) a.ac h.0 h.2 in
      let z = node_back u t (sym same) a.sc h.1 h.3 in (
        x.0,
        z.0,
        x.1,
        z.1,
        ⊎_elim
            (λ w. inl (writes_alike t u same h.0 x.0 k (sym x.2) w.0, λ v. w.1 (writes_alike u t (sym same) z.0 h.1 k z.2 v)))
            (λ w. inr (writes_alike t u same h.1 z.0 k (sym z.2) w.0, λ v. w.1 (writes_alike u t (sym same) x.0 h.0 k x.2 v)))
            h.4,
      )

  execution_carried : (x y : NodeInfo) (us acts : List Act) (o : OrMayTrap Intervals) → node_seen x ≡ node_seen y → deeds_view us ≡ deeds_view acts
      → IsSafeExecution t x us o → IsSafeExecution u y acts o
  execution_carried x y us acts o alike deeds h = (h.0, hulls_alike t u same h.0 h.1, along (execution_alike t u same x y alike us acts h.0 o deeds) h.2)

-- each check
module _ (t u : Tables) (same : tables_seen t ≡ tables_seen u) where
  shared_node_carried : Carried (shared_node t) (shared_node u)
  shared_node_carried = record {
    passes = own_node_alike t u same;
    refuses =
        λ r h. (h.0, h.1, h.2, clash_carried (ShareNode t) (ShareNode u) (share_node_alike t u same) (share_node_alike u t (sym same)) h.0 h.1 h.2 h.3, h.4);
  }

  shared_output_carried : Carried (shared_output t) (shared_output u)
  shared_output_carried = record {
    passes = own_output_alike t u same;
    refuses =
        λ r h. (
          h.0,
          h.1,
          h.2,
          clash_carried (ShareOutput t) (ShareOutput u) (share_output_alike t u same) (share_output_alike u t (sym same)) h.0 h.1 h.2 h.3,
          h.4,
        );
  }

  shared_plant_carried : Carried (shared_plant t) (shared_plant u)
  shared_plant_carried = record {
    passes = own_plant_alike t u same;
    refuses =
        λ r h. (
          h.0,
          h.1,
          h.2,
          clash_carried (SharePlant t) (SharePlant u) (share_plant_alike t u same) (share_plant_alike u t (sym same)) h.0 h.1 h.2 h.3,
          h.4,
        );
  }

  foreign_carried : (m : ℕ) (a : ModuleInfo) → Carried (foreign_input t m a) (foreign_input u m a)
  foreign_carried m a = record {
    passes = own_inputs_alike t u same a;
    refuses = λ r h. (h.0, least_carried (IsForeignInput t a) (IsForeignInput u a) (foreign_alike t u same a) (foreign_alike u t (sym same) a) h.0 h.1, h.2);
  }

  pub periods_carried : (m : ℕ) (a : ModuleInfo) → Carried (periods t m a) (periods u m a)
  periods_carried m a = record {
    passes = periods_alike t u same a;
    refuses = λ r h.
        ⊎_elim
        (λ x. inl (longer_alike t u same a a.ac x.0, x.1))
        (λ y. inr ((λ l. y.0 (longer_alike u t (sym same) a a.ac l)), longer_alike t u same a a.sc y.1, y.2))
        h;
  }

  pub outputs_carried : (m : ℕ) (a : ModuleInfo) → Carried (outputs t m a) (outputs u m a)
  outputs_carried m a = record {
    passes = outputs_alike t u same a;
    refuses = λ r h. (h.0, least_carried (IsWrittenByOne t a) (IsWrittenByOne u a) (by_one_alike t u same a) (by_one_alike u t (sym same) a) h.0 h.1, h.2);
  }

  pub boxes_carried : (m : ℕ) (a : ModuleInfo) → Carried (boxes m a) (boxes m a)
  boxes_carried m a = record { passes = λ p. p; refuses = λ r h. h }

  frame_carried : (m : ℕ) (a : ModuleInfo) → Carried (frame t m a) (frame u m a)
  frame_carried m a =
      both_carried (and_then (periods t m a) (outputs t m a)) (boxes m a) (and_then (periods u m a) (outputs u m a)) (boxes m a)
      (both_carried (periods t m a) (outputs t m a) (periods u m a) (outputs u m a) (periods_carried m a) (outputs_carried m a))
      (boxes_carried m a)

  trap_free_carried : (n : ℕ) (x y : NodeInfo) → node_seen x ≡ node_seen y → (us acts : List Act) → deeds_view us ≡ deeds_view acts
      → Carried (trap_free t n x us) (trap_free u n y acts)
  trap_free_carried n x y alike us acts deeds = record {
    passes = trap_free_alike t u same x y us acts alike deeds;
    refuses = λ r h. (h.0, execution_carried t u same x y us acts (Err h.0) alike deeds h.1, h.2);
  }

  code_carried : (n : ℕ) (x y : NodeInfo) → node_seen x ≡ node_seen y → Carried (code t n x) (code u n y)
  code_carried n x y alike =
      the_carried (IsCoded x) (IsCoded y) (λ us acts. deeds_view us ≡ deeds_view acts) (trap_free t n x) (trap_free u n y)
      (λ us coded. (let v = coded_alike y x us (sym alike) coded in (v.0, v.1, sym v.2)))
      (λ acts coded. coded_alike x y acts alike coded)
      (trap_free_carried n x y alike)

-- checks of each module, and of each node
module _ (t u : Tables) (same : tables_seen t ≡ tables_seen u) where
  pub modules_carried : (f g : ℕ → ModuleInfo → Check) → ((m : ℕ) (a : ModuleInfo) → Carried (f m a) (g m a))
      → Carried (for_each t.modules f) (for_each u.modules g)
  modules_carried f g each =
      each_carried (λ a b. a ≡ b) t.modules u.modules f g
      (λ m a at. (a, module_back u t (sym same) m a at, refl))
      (λ m a at. (a, module_back t u same m a at, refl))
      (λ m a b one. subst (λ x. Carried (f m a) (g m x)) one (each m a))

  pub nodes_carried : Carried (for_each t.nodes (code t)) (for_each u.nodes (code u))
  nodes_carried =
      each_carried (λ x y. node_seen x ≡ node_seen y) t.nodes u.nodes (code t) (code u)
      (λ n x at. (let y = node_back u t (sym same) n x at in (y.0, y.1, sym y.2)))
      (λ n y at. node_back t u same n y at)
      (code_carried t u same)

  pub composition_carried : Carried (composition t) (composition u)
  composition_carried =
      both_carried (shared_node t) (and_then (shared_output t) (and_then (shared_plant t) (for_each t.modules (foreign_input t))))
      (shared_node u) (and_then (shared_output u) (and_then (shared_plant u) (for_each u.modules (foreign_input u))))
      (shared_node_carried t u same)
      (both_carried (shared_output t) (and_then (shared_plant t) (for_each t.modules (foreign_input t)))
      (shared_output u) (and_then (shared_plant u) (for_each u.modules (foreign_input u)))
      (shared_output_carried t u same)
      (both_carried (shared_plant t) (for_each t.modules (foreign_input t)) (shared_plant u) (for_each u.modules (foreign_input u))
      (shared_plant_carried t u same)
      (modules_carried (foreign_input t) (foreign_input u) (foreign_carried t u same))))

  pub without_cells_carried : Carried (without_cells t) (without_cells u)
  without_cells_carried =
      both_carried (composition t) (and_then (for_each t.modules (frame t)) (for_each t.nodes (code t)))
      (composition u) (and_then (for_each u.modules (frame u)) (for_each u.nodes (code u)))
      composition_carried
      (both_carried (for_each t.modules (frame t)) (for_each t.nodes (code t)) (for_each u.modules (frame u)) (for_each u.nodes (code u))
      (modules_carried (frame t) (frame u) (frame_carried t u same))
      nodes_carried)
