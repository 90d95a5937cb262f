-- What tables that look the same have in common: scalars and modules are equal, and at each place stand a plant and a node that look
-- the same.
use Rattle.std.proofs.Common.{◌≡◌, ℕ, suc, List, [], ◌∷◌, map, length, refl, sym, ap, ◌∙◌, subst}
use Rattle.sot_lists.specs.Places.{At}
use Rattle.sot_lists.proofs.Places.{at_map, at_mapped}
use Rattle.sot_lang.specs.declared.tables.ScalarInfo.{ScalarInfo}
use Rattle.sot_lang.specs.declared.tables.PlantInfo.{PlantInfo}
use Rattle.sot_lang.specs.declared.tables.NodeInfo.{NodeInfo}
use Rattle.sot_lang.specs.declared.tables.ModuleInfo.{ModuleInfo}
use Rattle.sot_lang.specs.Tables.{Tables}
use Rattle.sot_typing.specs.Resolved.{ProgramTables, PlantTable, NodeTable, plant_seen, node_seen, tables_seen}

mapped_length : {A B : Type 0} (f : A → B) (xs : List A) → length (map f xs) ≡ length xs
mapped_length f [] = refl
mapped_length f (x ∷ xs) = ap suc (mapped_length f xs)

module _ (t u : Tables) (same : tables_seen t ≡ tables_seen u) where
  pub scalars_same : t.scalars ≡ u.scalars
  scalars_same = ap (λ (s : ProgramTables). s.scalars) same

  pub modules_same : t.modules ≡ u.modules
  modules_same = ap (λ (s : ProgramTables). s.modules) same

  pub plants_seen_same : map plant_seen t.plants ≡ map plant_seen u.plants
  plants_seen_same = ap (λ (s : ProgramTables). s.plants) same

  pub nodes_seen_same : map node_seen t.nodes ≡ map node_seen u.nodes
  nodes_seen_same = ap (λ (s : ProgramTables). s.nodes) same

  pub plant_count_same : length t.plants ≡ length u.plants
  plant_count_same = sym (mapped_length plant_seen t.plants) ∙ ap length plants_seen_same ∙ mapped_length plant_seen u.plants

  -- a scalar of the second tables is one of the first
  pub scalar_back : (k : ℕ) (x : ScalarInfo) → At u.scalars k x → At t.scalars k x
  scalar_back k x at = subst (λ (xs : List ScalarInfo). At xs k x) (sym scalars_same) at

  -- so is a module
  pub module_back : (m : ℕ) (a : ModuleInfo) → At u.modules m a → At t.modules m a
  module_back m a at = subst (λ (xs : List ModuleInfo). At xs m a) (sym modules_same) at

  -- a plant of the second tables looks as the one at its place in the first
  pub plant_back : (k : ℕ) (y : PlantInfo) → At u.plants k y → (x : PlantInfo) × At t.plants k x × (plant_seen x ≡ plant_seen y)
  plant_back k y at =
      let P : List PlantTable → Type 0 = λ l. At l k (plant_seen y) in
      at_mapped plant_seen t.plants k (plant_seen y) (subst P (sym plants_seen_same) (at_map plant_seen u.plants k y at))

  -- so does a node
  pub node_back : (n : ℕ) (y : NodeInfo) → At u.nodes n y → (x : NodeInfo) × At t.nodes n x × (node_seen x ≡ node_seen y)
  node_back n y at =
      let P : List NodeTable → Type 0 = λ l. At l n (node_seen y) in
      at_mapped node_seen t.nodes n (node_seen y) (subst P (sym nodes_seen_same) (at_map node_seen u.nodes n y at))
