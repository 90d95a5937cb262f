-- Modules that share nothing: each is safe whatever the others do.
use Rattle.std.specs.Prelude.{ℕ, ◌≡◌, ◌⊎◌, ◌≢◌}
use Rattle.sot_lang.specs.declared.tables.PlantInfo.{PlantInfo}
use Rattle.sot_lang.specs.declared.tables.NodeInfo.{NodeInfo}
use Rattle.sot_lang.specs.declared.tables.ModuleInfo.{ModuleInfo}
use Rattle.sot_lang.specs.Tables.{Tables}
use Rattle.sot_lists.specs.Places.{At, Has}
use Rattle.sot_tube.specs.Topics.{WritesTopic, IsInputTopic}

-- a module uses a node as its advanced or as its safe node
abbrev pub UsesNode : ModuleInfo → ℕ → Type 0
UsesNode a n = (a.ac ≡ n) ⊎ (a.sc ≡ n)

-- n and n' are the advanced and the safe node of one module, in either order
abbrev pub ArePartners : Tables → ℕ → ℕ → Type 0
ArePartners p n n' =
    (m : ℕ) × (a : ModuleInfo) × At p.modules m a
    × (((a.ac ≡ n) × (a.sc ≡ n')) ⊎ ((a.sc ≡ n) × (a.ac ≡ n')))

-- no node belongs to two modules
abbrev pub NoSharedNode : Tables → Type 0
NoSharedNode p =
    (m m' : ℕ) (a b : ModuleInfo) (n : ℕ) → At p.modules m a → At p.modules m' b
    → UsesNode a n → UsesNode b n → m ≡ m'

-- two nodes that write one topic are the two nodes of one module
abbrev pub NoSharedOutput : Tables → Type 0
NoSharedOutput p =
    (n n' : ℕ) (a b : NodeInfo) (t : ℕ) → At p.nodes n a → At p.nodes n' b
    → WritesTopic p a t → WritesTopic p b t → n ≢ n' → ArePartners p n n'

-- no plant belongs to two modules
abbrev pub NoSharedPlant : Tables → Type 0
NoSharedPlant p =
    (m m' : ℕ) (a b : ModuleInfo) → At p.modules m a → At p.modules m' b → a.plant ≡ b.plant
    → m ≡ m'

-- every input topic of a module's plant is written by the module's safe node
abbrev pub NoForeignInput : Tables → ModuleInfo → Type 0
NoForeignInput p a =
    (plant : PlantInfo) (sc : NodeInfo) (t : ℕ) → At p.plants a.plant plant → At p.nodes a.sc sc
    → IsInputTopic p plant t → WritesTopic p sc t

-- the modules of a program can be put together
pub record IsComposed (p : Tables) : Type 0 where
  pub own_node : NoSharedNode p
  pub own_output : NoSharedOutput p
  pub own_plant : NoSharedPlant p
  pub own_inputs : (m : ℕ) (a : ModuleInfo) → At p.modules m a → NoForeignInput p a

-- the modules of a program can be put together, said with scalars in place of topics
pub record IsComposedByScalars (p : Tables) : Type 0 where
  pub own_node : NoSharedNode p
  pub own_output : (n n' : ℕ) (a b : NodeInfo) (k : ℕ) → At p.nodes n a → At p.nodes n' b
      → Has a.writes.items k → Has b.writes.items k → n ≢ n' → ArePartners p n n'
  pub own_plant : NoSharedPlant p
  pub own_inputs : (m : ℕ) (a : ModuleInfo) (plant : PlantInfo) (sc : NodeInfo) (i k : ℕ)
      → At p.modules m a → At p.plants a.plant plant → At p.nodes a.sc sc
      → At plant.inputs.items i k → Has sc.writes.items k
