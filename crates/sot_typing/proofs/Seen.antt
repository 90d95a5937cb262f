-- The tables of a program, entry by entry.
use Rattle.std.proofs.Common.{◌≡◌, ◌∙◌, ℕ, List, map, flat_map, length, sym, ap, subst}
use Rattle.std.proofs.lemmas.List.{length-map}
use Rattle.sot_lists.specs.Places.{At}
use Rattle.sot_lang.specs.declared.tables.TopicInfo.{TopicInfo}
use Rattle.sot_lang.specs.declared.tables.PlantInfo.{PlantInfo}
use Rattle.sot_lang.specs.declared.tables.NodeInfo.{NodeInfo}
use Rattle.sot_lang.specs.declared.tables.ModuleInfo.{ModuleInfo}
use Rattle.sot_lang.specs.Tables.{Tables}
use Rattle.sot_syntax_tree.specs.Trees.{Topic, Plant, Node, Module, Program}
use Rattle.sot_typing.specs.Resolved.{topics, plants, nodes, modules, topic_info, topic_scalars, plant_table, plant_seen, node_table, node_seen, module_info}
use Rattle.sot_typing.specs.Resolved.{tables_of, AreTables}
use Rattle.sot_typing.proofs.Lists.{at_map, at_mapped}

-- each list of the tables
pub record AreSeen (p : Program) (t : Tables) : Type 0 where
  pub topics_are : t.topics ≡ map (topic_info p) (topics p)
  pub scalars_are : t.scalars ≡ flat_map (topic_scalars p) (topics p)
  pub plants_are : map plant_seen t.plants ≡ map (plant_table p) (plants p)
  pub nodes_are : map node_seen t.nodes ≡ map (node_table p) (nodes p)
  pub modules_are : t.modules ≡ map (module_info p) (modules p)

pub are_seen : (p : Program) (t : Tables) → AreTables p t → AreSeen p t
unfolding tables_of
are_seen p t e = record {
  topics_are = ap (λ x. x.topics) e;
  scalars_are = ap (λ x. x.scalars) e;
  plants_are = ap (λ x. x.plants) e;
  nodes_are = ap (λ x. x.nodes) e;
  modules_are = ap (λ x. x.modules) e;
}

-- two lists that are seen alike
pub of_seen : {A B C : Type 0} (f : A → C) (g : B → C) (xs : List A) (ys : List B) → map f xs ≡ map g ys → (k : ℕ) (x : A) → At xs k x
    → (y : B) × At ys k y × (f x ≡ g y)
of_seen {C = C} f g xs ys e k x a =
    let b : At (map g ys) k (f x) = subst (λ (l : List C). At l k (f x)) e (at_map f xs k x a) in
    let r = at_mapped g ys k (f x) b in
    (r.0, r.1, sym r.2)

seen_in : {A B C : Type 0} (f : A → C) (g : B → C) (xs : List A) (ys : List B) → map f xs ≡ map g ys → (k : ℕ) (y : B) → At ys k y
    → (x : A) × At xs k x × (f x ≡ g y)
seen_in f g xs ys e k y a = (let r = of_seen g f ys xs (sym e) k y a in (r.0, r.1, sym r.2))

seen_length : {A B C : Type 0} (f : A → C) (g : B → C) (xs : List A) (ys : List B) → map f xs ≡ map g ys → length xs ≡ length ys
seen_length f g xs ys e = sym (length-map xs f) ∙ ap length e ∙ length-map ys g

module _ (p : Program) (t : Tables) (s : AreSeen p t) where
  pub of_topic : (k : ℕ) (i : TopicInfo) → At t.topics k i → (x : Topic) × At (topics p) k x × (topic_info p x ≡ i)
  of_topic k i a = at_mapped (topic_info p) (topics p) k i (subst (λ (l : List TopicInfo). At l k i) s.topics_are a)

  pub topic_in : (k : ℕ) (x : Topic) → At (topics p) k x → At t.topics k (topic_info p x)
  topic_in k x a = subst (λ (l : List TopicInfo). At l k (topic_info p x)) (sym s.topics_are) (at_map (topic_info p) (topics p) k x a)

  pub topic_length : length t.topics ≡ length (topics p)
  topic_length = ap length s.topics_are ∙ length-map (topics p) (topic_info p)

  pub of_plant : (k : ℕ) (i : PlantInfo) → At t.plants k i → (x : Plant) × At (plants p) k x × (plant_seen i ≡ plant_table p x)
  of_plant k i a = of_seen plant_seen (plant_table p) t.plants (plants p) s.plants_are k i a

  pub plant_in : (k : ℕ) (x : Plant) → At (plants p) k x → (i : PlantInfo) × At t.plants k i × (plant_seen i ≡ plant_table p x)
  plant_in k x a = seen_in plant_seen (plant_table p) t.plants (plants p) s.plants_are k x a

  pub plant_length : length t.plants ≡ length (plants p)
  plant_length = seen_length plant_seen (plant_table p) t.plants (plants p) s.plants_are

  pub of_node : (k : ℕ) (i : NodeInfo) → At t.nodes k i → (x : Node) × At (nodes p) k x × (node_seen i ≡ node_table p x)
  of_node k i a = of_seen node_seen (node_table p) t.nodes (nodes p) s.nodes_are k i a

  pub node_in : (k : ℕ) (x : Node) → At (nodes p) k x → (i : NodeInfo) × At t.nodes k i × (node_seen i ≡ node_table p x)
  node_in k x a = seen_in node_seen (node_table p) t.nodes (nodes p) s.nodes_are k x a

  pub node_length : length t.nodes ≡ length (nodes p)
  node_length = seen_length node_seen (node_table p) t.nodes (nodes p) s.nodes_are

  pub of_module : (k : ℕ) (i : ModuleInfo) → At t.modules k i → (x : Module) × At (modules p) k x × (module_info p x ≡ i)
  of_module k i a = at_mapped (module_info p) (modules p) k i (subst (λ (l : List ModuleInfo). At l k i) s.modules_are a)

  pub module_in : (k : ℕ) (x : Module) → At (modules p) k x → At t.modules k (module_info p x)
  module_in k x a = subst (λ (l : List ModuleInfo). At l k (module_info p x)) (sym s.modules_are) (at_map (module_info p) (modules p) k x a)

  pub module_length : length t.modules ≡ length (modules p)
  module_length = ap length s.modules_are ∙ length-map (modules p) (module_info p)
