-- What the tables of every program satisfy: first the part on which the safety of runs rests, then
-- the rest.
use Rattle.std.specs.Prelude.{ℕ, ◌≤◌, true, List, [], ◌++◌, ◌≡◌, Some, None, length, map, ◌+◌, ◌≢◌}
use Rattle.std.specs.Prelude.{◌<◌, ℤ, pos, ◌≤ℤ◌, ◌-ℤ◌, ◌+ℤ◌, ◌^◌}
use Rattle.sot_lang.specs.declared.act.Act.{Act}
use Rattle.sot_lang.specs.declared.tables.TopicInfo.{TopicInfo}
use Rattle.sot_lang.specs.declared.tables.ScalarInfo.{ScalarInfo}
use Rattle.sot_lang.specs.declared.tables.PlantInfo.{PlantInfo}
use Rattle.sot_lang.specs.declared.tables.NoiseInfo.{NoiseInfo}
use Rattle.sot_lang.specs.declared.tables.LocalInfo.{LocalInfo}
use Rattle.sot_lang.specs.declared.tables.StateInfo.{StateInfo}
use Rattle.sot_lang.specs.declared.tables.Slot.TheVariants.{Scalar, State}
use Rattle.sot_lang.specs.declared.tables.NodeInfo.{NodeInfo}
use Rattle.sot_lang.specs.declared.tables.ModuleInfo.{ModuleInfo}
use Rattle.sot_lang.specs.Tables.{Tables}
use Rattle.sot_lists.specs.Places.{At, Has}
use Rattle.sot_box.specs.Boxes.{IsWithin}
use Rattle.sot_lang.specs.Ranges.{scalar_ranges, local_ranges}
use Rattle.sot_box.specs.BoxList.{BoxList}
use Rattle.sot_box.specs.Sides.{Side, AreOrdered}
use Rattle.sot_lang.specs.OwnerNames.{width_of, node_truths, plant_truths}
use Rattle.sot_lang.specs.TermRules.{TermsFit}
use Rattle.sot_lang.specs.ActRules.{ActsFit}

-- the node is coded, with these statements as its body
abbrev pub IsCoded : NodeInfo → List Act → Type 0
IsCoded node acts = (v : _) × (node.body ≡ Some v) × (v.items ≡ acts)

-- the part on which the safety of runs rests
pub record IsTyped (p : Tables) : Type 0 where
  -- an offset is below its period
  pub node_times : (n : ℕ) (node : NodeInfo) → At p.nodes n node → (node.offset < node.period)
  pub module_times : (m : ℕ) (module_info : ModuleInfo) → At p.modules m module_info
      → (module_info.offset < module_info.period)
  -- a module's advanced node exists; its safe node exists and is coded; its plant exists
  pub ac_is : (m : ℕ) (module_info : ModuleInfo) → At p.modules m module_info
      → (node : NodeInfo) × At p.nodes module_info.ac node
  pub sc_is : (m : ℕ) (module_info : ModuleInfo) → At p.modules m module_info
      → (node : NodeInfo) × (acts : List Act) × At p.nodes module_info.sc node × IsCoded node acts
  pub plant_is : (m : ℕ) (module_info : ModuleInfo) → At p.modules m module_info
      → (plant : PlantInfo) × At p.plants module_info.plant plant
  -- no node is both
  pub apart : (m : ℕ) (module_info : ModuleInfo) → At p.modules m module_info
      → module_info.ac ≢ module_info.sc
  -- a plant that is seen exists
  pub sees_are : (k : ℕ) (plant : PlantInfo) (n : ℕ) → At p.plants k plant → Has plant.sees.items n
      → (other : PlantInfo) × At p.plants n other
  -- each plant is named by some module
  pub named : (k : ℕ) (plant : PlantInfo) → At p.plants k plant
      → (m : ℕ) × (module_info : ModuleInfo) × At p.modules m module_info × (module_info.plant ≡ k)
  -- a plant of which a state is read exists
  pub reads_are : (n : ℕ) (node : NodeInfo) (k v : ℕ) → At p.nodes n node
      → Has node.reads.items (State k v) → (other : PlantInfo) × At p.plants k other
  -- initial values are in their ranges
  pub inits : IsWithin (scalar_ranges p) (map (λ i. i.init) p.scalars)
  pub local_inits : (n : ℕ) (node : NodeInfo) → At p.nodes n node
      → IsWithin (local_ranges node) (map (λ l. l.init) node.locals.items)
  -- a node's written scalars are distinct and exist
  pub once : (n : ℕ) (node : NodeInfo) (i j k : ℕ) → At p.nodes n node → At node.writes.items i k
      → At node.writes.items j k → i ≡ j
  pub inside : (n : ℕ) (node : NodeInfo) (k : ℕ) → At p.nodes n node → Has node.writes.items k
      → k < length p.scalars
  -- no node writes an environment topic
  pub outside : (n : ℕ) (node : NodeInfo) (t i : ℕ) (info : TopicInfo) → At p.nodes n node
      → At p.topics t info → info.outside ≡ true → i < info.count
      → Has node.writes.items (info.first + i) → ⊥
  -- the topics partition the scalars
  pub scalar_topic : (k : ℕ) (info : ScalarInfo) → At p.scalars k info
      → (topic : TopicInfo) × At p.topics info.topic topic × (topic.first ≤ k)
      × (k < topic.first + topic.count)
  pub topic_scalar : (t k : ℕ) (topic : TopicInfo) → At p.topics t topic → topic.first ≤ k
      → k < topic.first + topic.count → (info : ScalarInfo) × At p.scalars k info × (info.topic ≡ t)
  -- what a node writes, and what a plant takes as inputs, are whole topics
  pub whole_writes : (n : ℕ) (node : NodeInfo) (j k : ℕ) (a b : ScalarInfo) → At p.nodes n node
      → Has node.writes.items j → At p.scalars j a → At p.scalars k b → a.topic ≡ b.topic
      → Has node.writes.items k
  pub whole_inputs : (i : ℕ) (plant : PlantInfo) (j k : ℕ) (a b : ScalarInfo) → At p.plants i plant
      → Has plant.inputs.items j → At p.scalars j a → At p.scalars k b → a.topic ≡ b.topic
      → Has plant.inputs.items k
  -- an input exists
  pub inputs_are : (i : ℕ) (plant : PlantInfo) (k : ℕ) → At p.plants i plant
      → Has plant.inputs.items k → k < length p.scalars

-- no name stands twice
abbrev pub AreDistinct : List (List ℕ) → Type 0
AreDistinct names = (i j : ℕ) (name : List ℕ) → At names i name → At names j name → i ≡ j

-- the names of all topics, plants, nodes and modules
abbrev pub declared_names : Tables → List (List ℕ)
declared_names p =
    map (λ t. t.name) p.topics ++ map (λ k. k.name) p.plants ++ map (λ n. n.name) p.nodes
    ++ map (λ m. m.name) p.modules

-- a range has a number, and at most 2^32 of them
abbrev pub IsNarrow : ℤ → ℤ → Type 0
IsNarrow lo hi = (lo ≤ℤ hi) × (((hi -ℤ lo) +ℤ pos 1) ≤ℤ pos (2 ^ 32))

-- a scalar: at most six decimals, a range of at most 2^32 numbers, 0..1 for a truth value; without
-- a field it is alone in its topic
pub record MeetsScalarRules (p : Tables) (info : ScalarInfo) : Type 0 where
  pub scale : info.scale ≤ 6
  pub range : IsNarrow info.lo info.hi
  pub truth : info.truth ≡ true → (info.lo ≡ pos 0) × (info.hi ≡ pos 1)
  pub plain : (topic : TopicInfo) → At p.topics info.topic topic → info.field ≡ None
      → topic.count ≡ 1

-- a local: at most six decimals, a range with a number, 0..1 for a truth value
pub record MeetsLocalRules (info : LocalInfo) : Type 0 where
  pub scale : info.scale ≤ 6
  pub range : info.lo ≤ℤ info.hi
  pub truth : info.truth ≡ true → (info.lo ≡ pos 0) × (info.hi ≡ pos 1)

-- a plant: 1 to 4 state variables and as many next expressions, at most 8 inputs, 16 seen plants,
-- other than itself, and 4 disturbances
pub record MeetsPlantRules (p : Tables) (k : ℕ) (plant : PlantInfo) : Type 0 where
  pub some_state : 1 ≤ length plant.states.items
  pub states : length plant.states.items ≤ 4
  pub state_scales : (i : ℕ) (info : StateInfo) → At plant.states.items i info → info.scale ≤ 6
  pub inputs : length plant.inputs.items ≤ 8
  pub sees : length plant.sees.items ≤ 16
  pub sees_others : (n : ℕ) → Has plant.sees.items n → n ≢ k
  pub noise : length plant.noise.items ≤ 4
  pub noise_ranges : (i : ℕ) (info : NoiseInfo) → At plant.noise.items i info
      → (info.scale ≤ 6) × IsNarrow info.lo info.hi
  pub one_next : length plant.next.items ≡ length plant.states.items
  pub next : TermsFit (plant_truths p plant) plant.next.items

-- a node: a period of at most 1,000, at most 64 numbers read, which exist and are not written, at
-- most 8 scalars written, at most
-- 16 locals, none of an external node, and a body in form
pub record MeetsNodeRules (p : Tables) (node : NodeInfo) : Type 0 where
  pub period : node.period ≤ 1000
  pub reads : length node.reads.items ≤ 64
  pub reads_scalars : (k : ℕ) → Has node.reads.items (Scalar k) → k < length p.scalars
  pub reads_states : (k v : ℕ) → Has node.reads.items (State k v) → v < width_of p.plants k
  pub not_read : (k : ℕ) → Has node.reads.items (Scalar k) → Has node.writes.items k → ⊥
  pub writes : length node.writes.items ≤ 8
  pub locals : length node.locals.items ≤ 16
  pub local_ranges : (i : ℕ) (info : LocalInfo) → At node.locals.items i info → MeetsLocalRules info
  pub external : node.body ≡ None → node.locals.items ≡ []
  pub body : (acts : List Act) → IsCoded node acts
      → ActsFit (node_truths p node) (length node.locals.items) (length node.writes.items) acts

-- a region: at most 256 boxes, each with one side a state variable, whose low end is at most its
-- high end
pub record IsRegionFor (p : Tables) (plant : ℕ) (region : BoxList) : Type 0 where
  pub width : region.width ≡ width_of p.plants plant
  pub boxes : length region.boxes ≤ 256
  pub each : (i : ℕ) (b : List Side) → At region.boxes i b
      → (length b ≡ region.width) × AreOrdered b

-- a module: a period of at most 1,000, and two regions of its plant
pub record MeetsModuleRules (p : Tables) (info : ModuleInfo) : Type 0 where
  pub period : info.period ≤ 1000
  pub safe : IsRegionFor p info.plant info.safe
  pub safer : IsRegionFor p info.plant info.safer

-- the whole: how many things there may be, what each of them satisfies, and that names tell them
-- apart
pub record MeetsTableRules (p : Tables) : Type 0 where
  pub typed : IsTyped p
  pub topic_count : length p.topics ≤ 512
  pub plant_count : length p.plants ≤ 100
  pub node_count : length p.nodes ≤ 300
  pub module_count : length p.modules ≤ 100
  pub topics : (t : ℕ) (topic : TopicInfo) → At p.topics t topic
      → (1 ≤ topic.count) × (topic.count ≤ 8)
  pub scalars : (k : ℕ) (info : ScalarInfo) → At p.scalars k info → MeetsScalarRules p info
  pub plants : (k : ℕ) (plant : PlantInfo) → At p.plants k plant → MeetsPlantRules p k plant
  pub nodes : (n : ℕ) (node : NodeInfo) → At p.nodes n node → MeetsNodeRules p node
  pub modules : (m : ℕ) (info : ModuleInfo) → At p.modules m info → MeetsModuleRules p info
  pub names_once : AreDistinct (declared_names p)
  pub fields_once : (i j : ℕ) (a b : ScalarInfo) → At p.scalars i a → At p.scalars j b
      → a.topic ≡ b.topic → a.field ≡ b.field → i ≡ j
