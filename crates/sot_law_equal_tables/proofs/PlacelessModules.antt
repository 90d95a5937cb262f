-- How modules are put together, and their shape, where tables are alike.
use Rattle.std.proofs.Common.{◌≡◌, ℕ, ◌≤◌, inl, inr, ⊎_elim, sym, ap, subst}
use Rattle.sot_lists.specs.Places.{Has}
use Rattle.sot_lang.specs.declared.tables.PlantInfo.{PlantInfo}
use Rattle.sot_lang.specs.declared.tables.NodeInfo.{NodeInfo}
use Rattle.sot_lang.specs.declared.tables.ModuleInfo.{ModuleInfo}
use Rattle.sot_lang.specs.Tables.{Tables}
use Rattle.sot_tube.specs.Topics.{IsOfTopic, WritesTopic, IsInputTopic}
use Rattle.sot_tube.specs.Composition.{ArePartners, NoSharedNode, NoSharedOutput, NoSharedPlant, NoForeignInput}
use Rattle.sot_tube.specs.Modules.{AreShortPeriods, AreSameOutputs}
use Rattle.sot_typing.specs.Resolved.{PlantTable, NodeTable}
use Rattle.sot_law_equal_tables.specs.UnplacedTables.{AreAlike}
use Rattle.sot_law_equal_tables.proofs.PlacelessSeen.{bare_plant, bare_node, scalar_back, module_back, plant_back, node_back}

module _ (t u : Tables) (same : AreAlike t u) where
  of_topic_alike : (k n : ℕ) → IsOfTopic t k n → IsOfTopic u k n
  of_topic_alike k n topic = (topic.0, scalar_back u t (sym same) k topic.0 topic.1, topic.2)

  pub writes_alike : (x y : NodeInfo) (n : ℕ) → bare_node x ≡ bare_node y → WritesTopic t x n → WritesTopic u y n
  writes_alike x y n alike writes =
      let items : x.writes.items ≡ y.writes.items = ap (λ (s : NodeTable). s.writes) alike in
      (writes.0, subst (λ l. Has l writes.0) items writes.1, of_topic_alike writes.0 n writes.2)

  pub input_alike : (x y : PlantInfo) (n : ℕ) → bare_plant x ≡ bare_plant y → IsInputTopic t x n → IsInputTopic u y n
  input_alike x y n alike input =
      let items : x.inputs.items ≡ y.inputs.items = ap (λ (s : PlantTable). s.inputs) alike in
      (input.0, subst (λ l. Has l input.0) items input.1, of_topic_alike input.0 n input.2)

  pub partners_alike : (n n' : ℕ) → ArePartners t n n' → ArePartners u n n'
  partners_alike n n' partners = (partners.0, partners.1, module_back u t (sym same) partners.0 partners.1 partners.2, partners.3)

module _ (t u : Tables) (same : AreAlike t u) where
  pub own_node_alike : NoSharedNode t → NoSharedNode u
  own_node_alike own m m' a b n at at' uses uses' = own m m' a b n (module_back t u same m a at) (module_back t u same m' b at') uses uses'

  pub own_plant_alike : NoSharedPlant t → NoSharedPlant u
  own_plant_alike own m m' a b at at' plant = own m m' a b (module_back t u same m a at) (module_back t u same m' b at') plant

  pub own_output_alike : NoSharedOutput t → NoSharedOutput u
  own_output_alike own n n' a b k at at' writes writes' apart =
      let x = node_back t u same n a at in
      let z = node_back t u same n' b at' in
      partners_alike t u same n n'
      (own n n' x.0 z.0 k x.1 z.1 (writes_alike u t (sym same) a x.0 k (sym x.2) writes) (writes_alike u t (sym same) b z.0 k (sym z.2) writes') apart)

  pub own_inputs_alike : (a : ModuleInfo) → NoForeignInput t a → NoForeignInput u a
  own_inputs_alike a own plant sc k at at' input =
      let x = plant_back t u same a.plant plant at in
      let z = node_back t u same a.sc sc at' in
      writes_alike t u same z.0 sc k z.2 (own x.0 z.0 k x.1 z.1 (input_alike u t (sym same) plant x.0 k (sym x.2) input))

  pub periods_alike : (a : ModuleInfo) → AreShortPeriods t a → AreShortPeriods u a
  periods_alike a periods y at = ⊎_elim
      (λ ac. let x = node_back t u same a.ac y ac in not_longer x.0 x.2 (periods x.0 (inl x.1)))
      (λ sc. let x = node_back t u same a.sc y sc in not_longer x.0 x.2 (periods x.0 (inr x.1)))
      at
    where
      not_longer : (x : NodeInfo) → bare_node x ≡ bare_node y → x.period ≤ a.period → y.period ≤ a.period
      not_longer x alike le = subst (λ k. k ≤ a.period) (ap (λ (s : NodeTable). s.period) alike) le

  pub outputs_alike : (a : ModuleInfo) → AreSameOutputs t a → AreSameOutputs u a
  outputs_alike a outputs ac sc k ac_at sc_at =
      let x = node_back t u same a.ac ac ac_at in
      let z = node_back t u same a.sc sc sc_at in
      let both = outputs x.0 z.0 k x.1 z.1 in (
        (λ w. writes_alike t u same z.0 sc k z.2 (both.0 (writes_alike u t (sym same) ac x.0 k (sym x.2) w))),
        (λ w. writes_alike t u same x.0 ac k x.2 (both.1 (writes_alike u t (sym same) sc z.0 k (sym z.2) w))),
      )
