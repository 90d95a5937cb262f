-- The tables of a program.
use Rattle.std.specs.Prelude.{◌≡◌, ℕ, zero, suc, Bool, true, ℤ, pos, List, [], ◌∷◌, map, length}
use Rattle.std.specs.Prelude.{zip, Option, Some, None, option_map, nat_abs, flat_map, filter_map}
use Rattle.std.specs.Prelude.{sum_by, take}
use Rattle.std.specs.List.{position_or_len}
use Rattle.sot_box.specs.BoxList.{BoxList}
use Rattle.sot_box.specs.Sides.{Side}
use Rattle.sot_syntax_tree.specs.declared.tree.Ident.{Ident}
use Rattle.sot_syntax_tree.specs.declared.tree.Bounds.{Bounds}
use Rattle.sot_syntax_tree.specs.declared.tree.Scalar.{Scalar}
use Rattle.sot_syntax_tree.specs.declared.tree.Scalar.TheVariants.{Int, Fix, Bool as BoolScalar}
use Rattle.sot_syntax_tree.specs.declared.tree.Const.{Const}
use Rattle.sot_syntax_tree.specs.declared.tree.Const.TheVariants.{Number, Truth}
use Rattle.sot_syntax_tree.specs.declared.tree.Field.{Field}
use Rattle.sot_syntax_tree.specs.declared.tree.StateDecl.{StateDecl}
use Rattle.sot_lang.specs.declared.tables.TopicInfo.{TopicInfo}
use Rattle.sot_lang.specs.declared.tables.ScalarInfo.{ScalarInfo}
use Rattle.sot_lang.specs.declared.tables.StateInfo.{StateInfo}
use Rattle.sot_lang.specs.declared.tables.NoiseInfo.{NoiseInfo}
use Rattle.sot_lang.specs.declared.tables.LocalInfo.{LocalInfo}
use Rattle.sot_lang.specs.declared.tables.PlantInfo.{PlantInfo}
use Rattle.sot_lang.specs.declared.tables.NodeInfo.{NodeInfo}
use Rattle.sot_lang.specs.declared.tables.ModuleInfo.{ModuleInfo}
use Rattle.sot_lang.specs.declared.tables.Slot.{Slot}
use Rattle.sot_lang.specs.declared.tables.Slot.TheVariants.{Scalar as ScalarSlot, State}
use Rattle.sot_lang.specs.Tables.{Tables}
use Rattle.sot_syntax_tree.specs.Trees.{Form, one, fields, Topic, Plant, Node, Module, Local, Area}
use Rattle.sot_syntax_tree.specs.Trees.{Declaration, a_topic, a_plant, a_node, a_module, Program}
use Rattle.sot_rules.specs.Sorts.{scalar_sort, state_sort, is_truthful}
use Rattle.sot_rules.specs.Names.{meaning, node_scope, plant_scope}
use Rattle.sot_rules.specs.Tests.{form_scalars, starts}
use Rattle.sot_rules.specs.Lists.{are_same}
use Rattle.sot_typing.specs.Formulas.{Formula, Deeds, formula_view, deeds_view}
use Rattle.sot_typing.specs.Terms.{truth_number, sort_scale, formula_of, deeds_of}

-- the declarations of one sort, in order
abbrev pub a_topic_of : Declaration → Option Topic
a_topic_of (a_topic t) = Some t
a_topic_of _ = None

abbrev pub a_plant_of : Declaration → Option Plant
a_plant_of (a_plant q) = Some q
a_plant_of _ = None

abbrev pub a_node_of : Declaration → Option Node
a_node_of (a_node n) = Some n
a_node_of _ = None

abbrev pub a_module_of : Declaration → Option Module
a_module_of (a_module m) = Some m
a_module_of _ = None

abbrev pub topics : Program → List Topic
topics p = filter_map a_topic_of p.decls

abbrev pub plants : Program → List Plant
plants p = filter_map a_plant_of p.decls

abbrev pub nodes : Program → List Node
nodes p = filter_map a_node_of p.decls

abbrev pub modules : Program → List Module
modules p = filter_map a_module_of p.decls

-- the place of a name among those of its sort
abbrev pub topic_place : Program → Ident → ℕ
topic_place p i = position_or_len (λ t. are_same i t.name) (topics p)

abbrev pub plant_place : Program → Ident → ℕ
plant_place p i = position_or_len (λ q. are_same i q.name) (plants p)

abbrev pub node_place : Program → Ident → ℕ
node_place p i = position_or_len (λ n. are_same i n.name) (nodes p)

-- how many scalars a topic has, and the place of its first one: topics lie one behind another
abbrev pub scalar_count : Topic → ℕ
scalar_count t = length (form_scalars t.shape)

abbrev pub first_scalar : Program → ℕ → ℕ
first_scalar p k = sum_by scalar_count (take k (topics p))

-- so many numbers, from one on
abbrev pub counted_from : ℕ → ℕ → List ℕ
counted_from first zero = []
counted_from first (suc n) = first ∷ counted_from (suc first) n

-- the scalars that a name stands for, where it is a topic, and what a node reads by a name
abbrev pub scalars_meant : Program → Ident → List ℕ
scalars_meant p i =
    elim (meaning p i) as (λ x. List ℕ) [
      | Some (a_topic t) ↦ counted_from (first_scalar p (topic_place p i)) (scalar_count t)
      | _ ↦ []
    ]

abbrev pub slots_meant : Program → Ident → List Slot
slots_meant p i =
    elim (meaning p i) as (λ x. List Slot) [
      | Some (a_topic t) ↦ map (λ k. ScalarSlot k) (scalars_meant p i)
      | Some (a_plant q) ↦ map (λ v. State (plant_place p i) v) (counted_from 0 (length q.states))
      | _ ↦ []
    ]

-- the range of a scalar; of a truth value 0..1
abbrev pub lowest : Scalar → ℤ
lowest (Int b) = b.lo.mantissa
lowest (Fix d b) = b.lo.mantissa
lowest (BoolScalar at) = pos 0

abbrev pub greatest : Scalar → ℤ
greatest (Int b) = b.hi.mantissa
greatest (Fix d b) = b.hi.mantissa
greatest (BoolScalar at) = pos 1

abbrev pub const_number : Const → ℤ
const_number (Number l) = l.mantissa
const_number (Truth b at) = truth_number b

abbrev pub scalar_scale : Scalar → ℕ
scalar_scale s = sort_scale (scalar_sort s)

abbrev pub is_truth : Scalar → Bool
is_truth s = is_truthful (scalar_sort s)

-- topics
abbrev pub topic_info : Program → Topic → TopicInfo
topic_info p t =
    record {
      name = t.name.name;
      outside = t.outside;
      first = first_scalar p (topic_place p t.name);
      count = scalar_count t;
    }

-- the scalars of a topic: each with its field, its type and its initial value
abbrev pub field_names : Form → List (Option (List ℕ))
field_names (one s) = None ∷ []
field_names (fields fs) = map (λ f. Some f.name.name) fs

abbrev pub scalar_info : ℕ → Option (List ℕ) → Scalar → Const → ScalarInfo
scalar_info topic field s c = record {
  topic = topic;
  field = field;
  scale = scalar_scale s;
  truth = is_truth s;
  lo = lowest s;
  hi = greatest s;
  init = const_number c;
}

abbrev pub topic_scalars : Program → Topic → List ScalarInfo
topic_scalars p t =
    map (λ x. scalar_info (topic_place p t.name) x.0 x.1.0 x.1.1)
    (zip (field_names t.shape) (starts t))

-- plants
abbrev pub state_info : StateDecl → StateInfo
state_info s = record { name = s.name.name; scale = sort_scale (state_sort s) }

abbrev pub noise_info : Field → NoiseInfo
noise_info f =
    record {
      name = f.name.name;
      scale = scalar_scale f.scalar;
      lo = lowest f.scalar;
      hi = greatest f.scalar;
    }

-- a plant with its lists; inputs are scalars, seen plants are plants
pub record PlantTable : Type 0 where
  pub name : List ℕ
  pub states : List StateInfo
  pub inputs : List ℕ
  pub sees : List ℕ
  pub noise : List NoiseInfo
  pub next : List Formula

abbrev pub plant_table : Program → Plant → PlantTable
plant_table p q = record {
  name = q.name.name;
  states = map state_info q.states;
  inputs = flat_map (scalars_meant p) q.inputs;
  sees = map (plant_place p) q.sees;
  noise = map noise_info q.noise;
  next = map (λ n. formula_of (plant_scope p q) n.value) q.next;
}

abbrev pub plant_seen : PlantInfo → PlantTable
plant_seen i = record {
  name = i.name;
  states = i.states.items;
  inputs = i.inputs.items;
  sees = i.sees.items;
  noise = i.noise.items;
  next = map formula_view i.next.items;
}

-- a node with its lists; what it reads are scalars and states, what it writes are scalars
pub record NodeTable : Type 0 where
  pub name : List ℕ
  pub period : ℕ
  pub offset : ℕ
  pub reads : List Slot
  pub writes : List ℕ
  pub locals : List LocalInfo
  pub body : Option Deeds

abbrev pub local_info : Local → LocalInfo
local_info l = record {
  name = l.name.name;
  scale = scalar_scale l.scalar;
  truth = is_truth l.scalar;
  lo = lowest l.scalar;
  hi = greatest l.scalar;
  init = const_number l.init;
}

abbrev pub node_table : Program → Node → NodeTable
node_table p n = record {
  name = n.name.name;
  period = nat_abs n.period.mantissa;
  offset = nat_abs n.offset.mantissa;
  reads = flat_map (slots_meant p) n.reads;
  writes = flat_map (scalars_meant p) n.writes;
  locals = map local_info n.locals;
  body = option_map (deeds_of (node_scope p n)) n.body;
}

abbrev pub node_seen : NodeInfo → NodeTable
node_seen i = record {
  name = i.name;
  period = i.period;
  offset = i.offset;
  reads = i.reads.items;
  writes = i.writes.items;
  locals = i.locals.items;
  body = option_map (λ v. deeds_view v.items) i.body;
}

-- modules, with the boxes of their regions; each region is settled
abbrev pub side_of : Bounds → Side
side_of b = record { lo = b.lo.mantissa; hi = b.hi.mantissa }

abbrev pub state_count : Program → Ident → ℕ
state_count p i = elim (meaning p i) as (λ x. ℕ) [ Some (a_plant q) ↦ length q.states | _ ↦ 0 ]

abbrev pub region_of : Program → Ident → List Area → BoxList
region_of p plant areas =
    record {
      width = state_count p plant;
      boxes = map (λ a. map side_of a.sides) areas;
      settled = true;
    }

abbrev pub module_info : Program → Module → ModuleInfo
module_info p m = record {
  name = m.name.name;
  ac = node_place p m.ac;
  sc = node_place p m.sc;
  period = nat_abs m.period.mantissa;
  offset = nat_abs m.offset.mantissa;
  plant = plant_place p m.plant;
  safe = region_of p m.plant m.safe;
  safer = region_of p m.plant m.safer;
}

-- the whole: each thing has its place in declared order among those of its sort
pub record ProgramTables : Type 0 where
  pub topics : List TopicInfo
  pub scalars : List ScalarInfo
  pub plants : List PlantTable
  pub nodes : List NodeTable
  pub modules : List ModuleInfo

unfoldable pub tables_of : Program → ProgramTables
tables_of p = record {
  topics = map (topic_info p) (topics p);
  scalars = flat_map (topic_scalars p) (topics p);
  plants = map (plant_table p) (plants p);
  nodes = map (node_table p) (nodes p);
  modules = map (module_info p) (modules p);
}

abbrev pub tables_seen : Tables → ProgramTables
tables_seen t = record {
  topics = t.topics;
  scalars = t.scalars;
  plants = map plant_seen t.plants;
  nodes = map node_seen t.nodes;
  modules = t.modules;
}

-- these are the tables of the program
abbrev pub AreTables : Program → Tables → Type 0
AreTables p t = tables_seen t ≡ tables_of p
