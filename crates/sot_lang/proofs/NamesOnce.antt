-- Things of one sort that have one name are one thing.
use Rattle.std.proofs.Common.{◌≡◌, ℕ, ◌+◌, List, ◌++◌, length, map, subst, arith}
use Rattle.std.proofs.lemmas.Option.{slice_get_within}
use Rattle.sot_lists.specs.Places.{At}
use Rattle.sot_lists.proofs.Places.{at_map, at_front, at_behind}
use Rattle.sot_lang.specs.declared.tables.TopicInfo.{TopicInfo}
use Rattle.sot_lang.specs.declared.tables.PlantInfo.{PlantInfo}
use Rattle.sot_lang.specs.declared.tables.NodeInfo.{NodeInfo}
use Rattle.sot_lang.specs.declared.tables.ModuleInfo.{ModuleInfo}
use Rattle.sot_lang.specs.Tables.{Tables}
use Rattle.sot_lang.specs.TableRules.{MeetsTableRules, declared_names}

module _ (p : Tables) where
  abbrev topics : List (List ℕ)
  topics = map (λ (x : TopicInfo). x.name) p.topics

  abbrev plants : List (List ℕ)
  plants = map (λ (x : PlantInfo). x.name) p.plants

  abbrev nodes : List (List ℕ)
  nodes = map (λ (x : NodeInfo). x.name) p.nodes

  abbrev modules : List (List ℕ)
  modules = map (λ (x : ModuleInfo). x.name) p.modules

  -- where a name stands among all names that are declared
  topic_place : (k : ℕ) (x : TopicInfo) → At p.topics k x → At (declared_names p) k x.name
  topic_place k x at =
      at_front (topics ++ plants ++ nodes) modules k x.name
      (at_front (topics ++ plants) nodes k x.name (at_front topics plants k x.name (at_map (λ (y : TopicInfo). y.name) p.topics k x at)))

  plant_place : (k : ℕ) (x : PlantInfo) → At p.plants k x → At (declared_names p) (length topics + k) x.name
  plant_place k x at =
      at_front (topics ++ plants ++ nodes) modules (length topics + k) x.name
      (at_front (topics ++ plants) nodes (length topics + k) x.name
      (at_behind topics plants k x.name (at_map (λ (y : PlantInfo). y.name) p.plants k x at)))

  node_place : (k : ℕ) (x : NodeInfo) → At p.nodes k x → At (declared_names p) (length (topics ++ plants) + k) x.name
  node_place k x at =
      at_front (topics ++ plants ++ nodes) modules (length (topics ++ plants) + k) x.name
      (at_behind (topics ++ plants) nodes k x.name (at_map (λ (y : NodeInfo). y.name) p.nodes k x at))

  module_place : (k : ℕ) (x : ModuleInfo) → At p.modules k x → At (declared_names p) (length (topics ++ plants ++ nodes) + k) x.name
  module_place k x at = at_behind (topics ++ plants ++ nodes) modules k x.name (at_map (λ (y : ModuleInfo). y.name) p.modules k x at)

  module _ (rules : MeetsTableRules p) where
    -- two places among all names at which one name stands are one
    one_place : (i j : ℕ) (m n : List ℕ) → At (declared_names p) i m → At (declared_names p) j n → m ≡ n → i ≡ j
    one_place i j m n at_m at_n e = rules.names_once i j n (subst (At (declared_names p) i) e at_m) at_n

    pub topic_same : (s t : ℕ) (x y : TopicInfo) → At p.topics s x → At p.topics t y → x.name ≡ y.name → s ≡ t
    topic_same s t x y at_x at_y e = one_place s t x.name y.name (topic_place s x at_x) (topic_place t y at_y) e

    pub plant_same : (s t : ℕ) (x y : PlantInfo) → At p.plants s x → At p.plants t y → x.name ≡ y.name → s ≡ t
    plant_same s t x y at_x at_y e =
        let n = length topics in
        let same : n + s ≡ n + t = one_place (n + s) (n + t) x.name y.name (plant_place s x at_x) (plant_place t y at_y) e in
        omega (arith, same)

    pub node_same : (s t : ℕ) (x y : NodeInfo) → At p.nodes s x → At p.nodes t y → x.name ≡ y.name → s ≡ t
    node_same s t x y at_x at_y e =
        let n = length (topics ++ plants) in
        let same : n + s ≡ n + t = one_place (n + s) (n + t) x.name y.name (node_place s x at_x) (node_place t y at_y) e in
        omega (arith, same)

    pub module_same : (s t : ℕ) (x y : ModuleInfo) → At p.modules s x → At p.modules t y → x.name ≡ y.name → s ≡ t
    module_same s t x y at_x at_y e =
        let n = length (topics ++ plants ++ nodes) in
        let same : n + s ≡ n + t = one_place (n + s) (n + t) x.name y.name (module_place s x at_x) (module_place t y at_y) e in
        omega (arith, same)

    -- no topic has the name of a plant
    pub topic_no_plant : (s t : ℕ) (x : TopicInfo) (y : PlantInfo) → At p.topics s x → At p.plants t y → x.name ≡ y.name → ⊥
    topic_no_plant s t x y at_x at_y e =
        let same : s ≡ length topics + t = one_place s (length topics + t) x.name y.name (topic_place s x at_x) (plant_place t y at_y) e in
        let inside = slice_get_within topics s x.name (at_map (λ (z : TopicInfo). z.name) p.topics s x at_x) in
        omega (arith, same, inside)
