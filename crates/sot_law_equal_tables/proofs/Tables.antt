-- Programs that are the same have tables that are alike.
use Rattle.std.proofs.Common.{◌≡◌, ℕ, Bool, true, List, [], map, length, take, Option, Some, None, option_map, zip, flat_map, sum_by, refl, ap, sym, ◌∙◌}
use Rattle.std.specs.Prelude.{nat_abs}
use Rattle.std.specs.List.{position_or_len}
use Rattle.sot_syntax_tree.specs.declared.tree.Ident.{Ident}
use Rattle.sot_syntax_tree.specs.declared.tree.Scalar.{Scalar}
use Rattle.sot_syntax_tree.specs.declared.tree.Scalar.TheVariants.{Int, Fix, Bool as Truths}
use Rattle.sot_syntax_tree.specs.declared.tree.Const.{Const}
use Rattle.sot_syntax_tree.specs.declared.tree.Const.TheVariants.{Number, Truth}
use Rattle.sot_syntax_tree.specs.declared.tree.Field.{Field}
use Rattle.sot_syntax_tree.specs.declared.tree.StateDecl.{StateDecl}
use Rattle.sot_syntax_tree.specs.Trees.{Form, one, fields, Topic, Plant, Node, Module, Local, Next, Area, Block, Declaration, a_topic, a_plant, a_node, a_module}
use Rattle.sot_syntax_tree.specs.Trees.{Program}
use Rattle.sot_lang.specs.declared.tables.ScalarInfo.{ScalarInfo}
use Rattle.sot_lang.specs.declared.tables.Slot.{Slot}
use Rattle.sot_lang.specs.declared.tables.Slot.TheVariants.{Scalar as ScalarSlot, State}
use Rattle.sot_rules.specs.Sorts.{is_truthful}
use Rattle.sot_rules.specs.Names.{meaning, Scope, node_scope, plant_scope}
use Rattle.sot_rules.specs.Lists.{are_same}
use Rattle.sot_rules.specs.Tests.{starts}
use Rattle.sot_typing.specs.Terms.{sort_scale, formula_of, deeds_of}
use Rattle.sot_typing.specs.Resolved.{a_topic_of, a_plant_of, a_node_of, a_module_of, topics, plants, nodes, modules, topic_place, plant_place, node_place}
use Rattle.sot_typing.specs.Resolved.{scalar_count, first_scalar, counted_from, scalars_meant, slots_meant, lowest, greatest, const_number, topic_info}
use Rattle.sot_typing.specs.Resolved.{field_names, scalar_info, topic_scalars, state_info, noise_info, plant_table, local_info, node_table, side_of}
use Rattle.sot_typing.specs.Resolved.{state_count, region_of, module_info, tables_of}
use Rattle.sot_law_print_parse.specs.Unplaced.{unplaced_name, unplaced_bounds, unplaced_scalar, unplaced_field, unplaced_const, unplaced_tree, unplaced_block}
use Rattle.sot_law_print_parse.specs.Unplaced.{unplaced_shape, unplaced_topic, unplaced_state, unplaced_next, unplaced_local, unplaced_plant, unplaced_node}
use Rattle.sot_law_print_parse.specs.Unplaced.{unplaced_area, unplaced_module, unplaced_declaration, without_places}
use Rattle.sot_law_equal_tables.specs.UnplacedTables.{unplaced_formula, unplaced_deeds, unplaced_plant_table, unplaced_node_table, unplaced_tables}
use Rattle.sot_law_equal_tables.specs.Places.{TablesKnowNoPlace}
use Rattle.sot_law_equal_tables.proofs.Lists.{length_same, map_same, map_swap, filter_swap, flat_same, position_same, take_swap, sum_same, zip_second}
use Rattle.sot_law_equal_tables.proofs.Names.{scalar_sort_same, state_sort_same, meant_same, node_scope_same, plant_scope_same}
use Rattle.sot_law_equal_tables.proofs.Declared.{scalar_count_same, unplaced_pair, starts_same}
use Rattle.sot_law_equal_tables.proofs.Terms.{formula_same, deeds_same}

-- the declarations of one sort
topic_of_same : (d : Declaration) → a_topic_of (unplaced_declaration d) ≡ option_map unplaced_topic (a_topic_of d)
topic_of_same (a_topic t) = refl
topic_of_same (a_plant q) = refl
topic_of_same (a_node n) = refl
topic_of_same (a_module m) = refl

plant_of_same : (d : Declaration) → a_plant_of (unplaced_declaration d) ≡ option_map unplaced_plant (a_plant_of d)
plant_of_same (a_topic t) = refl
plant_of_same (a_plant q) = refl
plant_of_same (a_node n) = refl
plant_of_same (a_module m) = refl

node_of_same : (d : Declaration) → a_node_of (unplaced_declaration d) ≡ option_map unplaced_node (a_node_of d)
node_of_same (a_topic t) = refl
node_of_same (a_plant q) = refl
node_of_same (a_node n) = refl
node_of_same (a_module m) = refl

module_of_same : (d : Declaration) → a_module_of (unplaced_declaration d) ≡ option_map unplaced_module (a_module_of d)
module_of_same (a_topic t) = refl
module_of_same (a_plant q) = refl
module_of_same (a_node n) = refl
module_of_same (a_module m) = refl

-- scalars
lowest_same : (s : Scalar) → lowest (unplaced_scalar s) ≡ lowest s
lowest_same (Int b) = refl
lowest_same (Fix d b) = refl
lowest_same (Truths at) = refl

greatest_same : (s : Scalar) → greatest (unplaced_scalar s) ≡ greatest s
greatest_same (Int b) = refl
greatest_same (Fix d b) = refl
greatest_same (Truths at) = refl

number_same : (c : Const) → const_number (unplaced_const c) ≡ const_number c
number_same (Number l) = refl
number_same (Truth b at) = refl

scalar_same : (k : ℕ) (field : Option (List ℕ)) (s : Scalar) (c : Const) → scalar_info k field (unplaced_scalar s) (unplaced_const c) ≡ scalar_info k field s c
scalar_same k field s c = λ j. record {
  topic = k;
  field = field;
  scale = sort_scale (scalar_sort_same s j);
  truth = is_truthful (scalar_sort_same s j);
  lo = lowest_same s j;
  hi = greatest_same s j;
  init = number_same c j;
}

field_names_same : (s : Form) → field_names (unplaced_shape s) ≡ field_names s
field_names_same (one s) = refl
field_names_same (fields fs) = map_same unplaced_field (λ (f : Field). Some f.name.name) (λ (f : Field). Some f.name.name) (λ f. refl) fs

state_same : (s : StateDecl) → state_info (unplaced_state s) ≡ state_info s
state_same s = λ j. record { name = s.name.name; scale = sort_scale (state_sort_same s j) }

noise_same : (f : Field) → noise_info (unplaced_field f) ≡ noise_info f
noise_same f = λ j. record { name = f.name.name; scale = sort_scale (scalar_sort_same f.scalar j); lo = lowest_same f.scalar j; hi = greatest_same f.scalar j }

local_same : (l : Local) → local_info (unplaced_local l) ≡ local_info l
local_same l = λ j. record {
  name = l.name.name;
  scale = sort_scale (scalar_sort_same l.scalar j);
  truth = is_truthful (scalar_sort_same l.scalar j);
  lo = lowest_same l.scalar j;
  hi = greatest_same l.scalar j;
  init = number_same l.init j;
}

-- what a name stands for, by what it means
abbrev counted : ℕ → Option Declaration → List ℕ
counted k m = elim m as (λ x. List ℕ) [
  | Some (a_topic t) ↦ counted_from k (scalar_count t)
  | _ ↦ []
]

counted_is : (k : ℕ) (d : Declaration) → counted k (Some (unplaced_declaration d)) ≡ counted k (Some d)
counted_is k (a_topic t) = ap (counted_from k) (scalar_count_same t.shape)
counted_is k (a_plant q) = refl
counted_is k (a_node n) = refl
counted_is k (a_module m) = refl

abbrev slotted : List ℕ → ℕ → Option Declaration → List Slot
slotted ks place m = elim m as (λ x. List Slot) [
  | Some (a_topic t) ↦ map (λ k. ScalarSlot k) ks
  | Some (a_plant q) ↦ map (λ v. State place v) (counted_from 0 (length q.states))
  | _ ↦ []
]

slotted_is : (ks : List ℕ) (place : ℕ) (d : Declaration) → slotted ks place (Some (unplaced_declaration d)) ≡ slotted ks place (Some d)
slotted_is ks place (a_topic t) = refl
slotted_is ks place (a_plant q) = ap (λ n. map (λ v. State place v) (counted_from 0 n)) (length_same unplaced_state q.states)
slotted_is ks place (a_node n) = refl
slotted_is ks place (a_module m) = refl

abbrev states_counted : Option Declaration → ℕ
states_counted m = elim m as (λ x. ℕ) [ Some (a_plant q) ↦ length q.states | _ ↦ 0 ]

states_are : (d : Declaration) → states_counted (Some (unplaced_declaration d)) ≡ states_counted (Some d)
states_are (a_topic t) = refl
states_are (a_plant q) = length_same unplaced_state q.states
states_are (a_node n) = refl
states_are (a_module m) = refl

module _ (p : Program) where
  topics_same : topics (without_places p) ≡ map unplaced_topic (topics p)
  topics_same = filter_swap unplaced_declaration a_topic_of unplaced_topic a_topic_of topic_of_same p.decls

  plants_same : plants (without_places p) ≡ map unplaced_plant (plants p)
  plants_same = filter_swap unplaced_declaration a_plant_of unplaced_plant a_plant_of plant_of_same p.decls

  nodes_same : nodes (without_places p) ≡ map unplaced_node (nodes p)
  nodes_same = filter_swap unplaced_declaration a_node_of unplaced_node a_node_of node_of_same p.decls

  modules_same : modules (without_places p) ≡ map unplaced_module (modules p)
  modules_same = filter_swap unplaced_declaration a_module_of unplaced_module a_module_of module_of_same p.decls

  topic_place_same : (i : Ident) → topic_place (without_places p) (unplaced_name i) ≡ topic_place p i
  topic_place_same i =
      let named : Topic → Bool = λ t. are_same i t.name in
      ap (position_or_len named) topics_same ∙ position_same unplaced_topic named named (λ t. refl) (topics p)

  plant_place_same : (i : Ident) → plant_place (without_places p) (unplaced_name i) ≡ plant_place p i
  plant_place_same i =
      let named : Plant → Bool = λ q. are_same i q.name in
      ap (position_or_len named) plants_same ∙ position_same unplaced_plant named named (λ q. refl) (plants p)

  node_place_same : (i : Ident) → node_place (without_places p) (unplaced_name i) ≡ node_place p i
  node_place_same i =
      let named : Node → Bool = λ n. are_same i n.name in
      ap (position_or_len named) nodes_same ∙ position_same unplaced_node named named (λ n. refl) (nodes p)

  first_scalar_same : (k : ℕ) → first_scalar (without_places p) k ≡ first_scalar p k
  first_scalar_same k =
      ap (λ (ts : List Topic). sum_by scalar_count (take k ts)) topics_same
      ∙ ap (sum_by scalar_count) (take_swap unplaced_topic k (topics p))
      ∙ sum_same unplaced_topic scalar_count scalar_count (λ t. scalar_count_same t.shape) (take k (topics p))

  first_same : (i : Ident) → first_scalar (without_places p) (topic_place (without_places p) (unplaced_name i)) ≡ first_scalar p (topic_place p i)
  first_same i = ap (first_scalar (without_places p)) (topic_place_same i) ∙ first_scalar_same (topic_place p i)

  scalars_same : (i : Ident) → scalars_meant (without_places p) (unplaced_name i) ≡ scalars_meant p i
  scalars_same i =
      ap (λ k. counted k (meaning (without_places p) i)) (first_same i)
      ∙ meant_same (counted (first_scalar p (topic_place p i))) (counted_is (first_scalar p (topic_place p i))) p i

  slots_same : (i : Ident) → slots_meant (without_places p) (unplaced_name i) ≡ slots_meant p i
  slots_same i =
      (λ j. slotted (scalars_same i j) (plant_place_same i j) (meaning (without_places p) i))
      ∙ meant_same (slotted (scalars_meant p i) (plant_place p i)) (slotted_is (scalars_meant p i) (plant_place p i)) p i

  state_count_same : (i : Ident) → state_count (without_places p) i ≡ state_count p i
  state_count_same i = meant_same states_counted states_are p i

  -- topics
  topic_info_same : (t : Topic) → topic_info (without_places p) (unplaced_topic t) ≡ topic_info p t
  topic_info_same t = λ j. record { name = t.name.name; outside = t.outside; first = first_same t.name j; count = scalar_count_same t.shape j }

  topic_scalars_same : (t : Topic) → topic_scalars (without_places p) (unplaced_topic t) ≡ topic_scalars p t
  topic_scalars_same t =
      let info : ℕ → (Option (List ℕ) × (Scalar × Const)) → ScalarInfo = λ k x. scalar_info k x.0 x.1.0 x.1.1 in
      (λ j. map (info (topic_place_same t.name j)) (zip (field_names_same t.shape j) (starts_same t j)))
      ∙ ap (map (info (topic_place p t.name))) (zip_second unplaced_pair (field_names t.shape) (starts t))
      ∙ map_same (λ (x : Option (List ℕ) × (Scalar × Const)). (x.0, unplaced_pair x.1)) (info (topic_place p t.name)) (info (topic_place p t.name))
      (λ x. scalar_same (topic_place p t.name) x.0 x.1.0 x.1.1) (zip (field_names t.shape) (starts t))

  -- plants
  next_same : (q : Plant) (n : Next) → formula_of (plant_scope (without_places p) (unplaced_plant q)) (unplaced_tree n.value)
      ≡ unplaced_formula (formula_of (plant_scope p q) n.value)
  next_same q n = ap (λ names. formula_of names (unplaced_tree n.value)) (plant_scope_same p q) ∙ formula_same (plant_scope p q) n.value

  plant_same : (q : Plant) → plant_table (without_places p) (unplaced_plant q) ≡ unplaced_plant_table (plant_table p q)
  plant_same q = λ j. record {
    name = q.name.name;
    states = map_same unplaced_state state_info state_info state_same q.states j;
    inputs = flat_same unplaced_name (scalars_meant (without_places p)) (scalars_meant p) scalars_same q.inputs j;
    sees = map_same unplaced_name (plant_place (without_places p)) (plant_place p) plant_place_same q.sees j;
    noise = map_same unplaced_field noise_info noise_info noise_same q.noise j;
    next =
        map_swap unplaced_next (λ (n : Next). formula_of (plant_scope (without_places p) (unplaced_plant q)) n.value) unplaced_formula
        (λ (n : Next). formula_of (plant_scope p q) n.value) (next_same q) q.next j;
  }

  -- nodes
  body_same : (n : Node) (b : Option Block) → option_map (deeds_of (node_scope (without_places p) (unplaced_node n))) (option_map unplaced_block b)
      ≡ option_map unplaced_deeds (option_map (deeds_of (node_scope p n)) b)
  body_same n None = refl
  body_same n (Some b) = ap Some (ap (λ (s : Scope). deeds_of s (unplaced_block b)) (node_scope_same p n) ∙ deeds_same (node_scope p n) b)

  node_same : (n : Node) → node_table (without_places p) (unplaced_node n) ≡ unplaced_node_table (node_table p n)
  node_same n = λ j. record {
    name = n.name.name;
    period = nat_abs n.period.mantissa;
    offset = nat_abs n.offset.mantissa;
    reads = flat_same unplaced_name (slots_meant (without_places p)) (slots_meant p) slots_same n.reads j;
    writes = flat_same unplaced_name (scalars_meant (without_places p)) (scalars_meant p) scalars_same n.writes j;
    locals = map_same unplaced_local local_info local_info local_same n.locals j;
    body = body_same n n.body j;
  }

  -- modules
  area_same : (a : Area) → map side_of (unplaced_area a).sides ≡ map side_of a.sides
  area_same a = map_same unplaced_bounds side_of side_of (λ b. refl) a.sides

  region_same : (i : Ident) (boxes : List Area) → region_of (without_places p) (unplaced_name i) (map unplaced_area boxes) ≡ region_of p i boxes
  region_same i boxes = λ j. record {
    width = state_count_same i j;
    boxes = map_same unplaced_area (λ (a : Area). map side_of a.sides) (λ (a : Area). map side_of a.sides) area_same boxes j;
    settled = true;
  }

  module_same : (m : Module) → module_info (without_places p) (unplaced_module m) ≡ module_info p m
  module_same m = λ j. record {
    name = m.name.name;
    ac = node_place_same m.ac j;
    sc = node_place_same m.sc j;
    period = nat_abs m.period.mantissa;
    offset = nat_abs m.offset.mantissa;
    plant = plant_place_same m.plant j;
    safe = region_same m.plant m.safe j;
    safer = region_same m.plant m.safer j;
  }

  -- the tables of a program without places are its tables without places
  tables_same : tables_of (without_places p) ≡ unplaced_tables (tables_of p)
  unfolding tables_of
  tables_same = λ j. record {
    topics =
        (ap (map (topic_info (without_places p))) topics_same ∙ map_same unplaced_topic (topic_info (without_places p)) (topic_info p) topic_info_same
        (topics p)) j;
    scalars =
        (ap (flat_map (topic_scalars (without_places p))) topics_same
        ∙ flat_same unplaced_topic (topic_scalars (without_places p)) (topic_scalars p) topic_scalars_same (topics p)) j;
    plants =
        (ap (map (plant_table (without_places p))) plants_same
        ∙ map_swap unplaced_plant (plant_table (without_places p)) unplaced_plant_table (plant_table p) plant_same (plants p)) j;
    nodes =
        (ap (map (node_table (without_places p))) nodes_same ∙ map_swap unplaced_node (node_table (without_places p)) unplaced_node_table (node_table p)
        node_same (nodes p)) j;
    modules =
        (ap (map (module_info (without_places p))) modules_same
        ∙ map_same unplaced_module (module_info (without_places p)) (module_info p) module_same (modules p)) j;
  }

pub tables_alike : TablesKnowNoPlace
tables_alike p q t u same of_p of_q =
    ap unplaced_tables of_p ∙ sym (tables_same p) ∙ ap tables_of same ∙ tables_same q ∙ ap unplaced_tables (sym of_q)
