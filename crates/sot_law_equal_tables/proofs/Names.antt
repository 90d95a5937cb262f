-- Sorts, and what names mean and read, do not tell places.
use Rattle.std.proofs.Common.{◌≡◌, ◌||◌, List, ◌∷◌, ◌++◌, map, Option, Some, None, option_map, find, filter_map, refl, ap, ◌∙◌}
use Rattle.std.specs.Prelude.{nat_abs, is_none}
use Rattle.std.specs.List.{list_any}
use Rattle.std.specs.Str.{bytes_eq}
use Rattle.sot_syntax_tree.specs.declared.tree.Ident.{Ident}
use Rattle.sot_syntax_tree.specs.declared.tree.Lit.{Lit}
use Rattle.sot_syntax_tree.specs.declared.tree.Scalar.{Scalar}
use Rattle.sot_syntax_tree.specs.declared.tree.Scalar.TheVariants.{Int, Fix, Bool as Truths}
use Rattle.sot_syntax_tree.specs.declared.tree.Field.{Field}
use Rattle.sot_syntax_tree.specs.declared.tree.Const.{Const}
use Rattle.sot_syntax_tree.specs.declared.tree.Const.TheVariants.{Number, Truth}
use Rattle.sot_syntax_tree.specs.declared.tree.StateDecl.{StateDecl}
use Rattle.sot_syntax_tree.specs.Trees.{Tree, Trees, number, truth, named, binary, rest, negated, denied, called, rescaled, chosen, no_tree, one_more, Block, Form}
use Rattle.sot_syntax_tree.specs.Trees.{one, fields, Topic, Plant, Node, Local, Declaration, a_topic, a_plant, a_node, a_module, Program}
use Rattle.sot_rules.specs.declared.expressions.sort.Sort.TheVariants.{Scaled}
use Rattle.sot_rules.specs.Sorts.{scalar_sort, written_scale, state_sort, const_sort, is_truthful, is_scaled, differ, kinds_misfit, scales_misfit}
use Rattle.sot_rules.specs.Sorts.{operator_sort, unless, given, some_differ, call_sort, branches_misfit}
use Rattle.sot_rules.specs.Names.{declared_name, meaning, is_topic, is_plant, is_node, is_environment, is_external, Part, Parts, alone, several, Thing}
use Rattle.sot_rules.specs.Names.{field_part, state_part, form_parts, topic_thing, plant_thing, local_thing, state_thing, noise_thing, topic_meant, plant_meant}
use Rattle.sot_rules.specs.Names.{either_meant, node_scope, state_scope, plant_scope, Reading, gives, nothing_at, part_reading, parts_reading, thing_reading}
use Rattle.sot_rules.specs.Names.{reading, reading_sort}
use Rattle.sot_rules.specs.TreeSorts.{is_no_scale, is_zero, sort, sorts}
use Rattle.sot_law_print_parse.specs.Unplaced.{nowhere, unplaced_name, unplaced_literal, unplaced_scalar, unplaced_field, unplaced_const, unplaced_tree}
use Rattle.sot_law_print_parse.specs.Unplaced.{unplaced_trees, unplaced_block, unplaced_shape, unplaced_topic, unplaced_state, unplaced_local, unplaced_plant}
use Rattle.sot_law_print_parse.specs.Unplaced.{unplaced_node, unplaced_declaration, without_places}
use Rattle.sot_law_equal_tables.proofs.Lists.{map_same, filter_same, find_same}

-- sorts
pub scalar_sort_same : (s : Scalar) → scalar_sort (unplaced_scalar s) ≡ scalar_sort s
scalar_sort_same (Int b) = refl
scalar_sort_same (Fix d b) = refl
scalar_sort_same (Truths at) = refl

pub const_sort_same : (c : Const) → const_sort (unplaced_const c) ≡ const_sort c
const_sort_same (Number l) = refl
const_sort_same (Truth b at) = refl

written_same : (o : Option Lit) → written_scale (option_map unplaced_literal o) ≡ written_scale o
written_same None = refl
written_same (Some d) = refl

pub state_sort_same : (s : StateDecl) → state_sort (unplaced_state s) ≡ state_sort s
state_sort_same s = written_same s.scale

-- things
field_part_same : (f : Field) → field_part (unplaced_field f) ≡ field_part f
field_part_same f = λ j. record { name = f.name.name; sort = scalar_sort_same f.scalar j }

state_part_same : (s : StateDecl) → state_part (unplaced_state s) ≡ state_part s
state_part_same s = λ j. record { name = s.name.name; sort = state_sort_same s j }

form_parts_same : (s : Form) → form_parts (unplaced_shape s) ≡ form_parts s
form_parts_same (one s) = ap alone (scalar_sort_same s)
form_parts_same (fields fs) = ap several (map_same unplaced_field field_part field_part field_part_same fs)

topic_thing_same : (t : Topic) → topic_thing (unplaced_topic t) ≡ topic_thing t
topic_thing_same t = λ j. record { name = t.name.name; parts = form_parts_same t.shape j }

plant_thing_same : (q : Plant) → plant_thing (unplaced_plant q) ≡ plant_thing q
plant_thing_same q = λ j. record { name = q.name.name; parts = several (map_same unplaced_state state_part state_part state_part_same q.states j) }

local_thing_same : (l : Local) → local_thing (unplaced_local l) ≡ local_thing l
local_thing_same l = λ j. record { name = l.name.name; parts = alone (scalar_sort_same l.scalar j) }

state_thing_same : (s : StateDecl) → state_thing (unplaced_state s) ≡ state_thing s
state_thing_same s = λ j. record { name = s.name.name; parts = alone (state_sort_same s j) }

noise_thing_same : (f : Field) → noise_thing (unplaced_field f) ≡ noise_thing f
noise_thing_same f = λ j. record { name = f.name.name; parts = alone (scalar_sort_same f.scalar j) }

-- what a name means
pub declared_same : (d : Declaration) → declared_name (unplaced_declaration d) ≡ unplaced_name (declared_name d)
declared_same (a_topic t) = refl
declared_same (a_plant q) = refl
declared_same (a_node n) = refl
declared_same (a_module m) = refl

pub meaning_same : (p : Program) (i : Ident) → meaning (without_places p) i ≡ option_map unplaced_declaration (meaning p i)
meaning_same p i =
    find_same unplaced_declaration (λ d. bytes_eq i.name (declared_name d).name) (λ d. bytes_eq i.name (declared_name d).name)
    (λ d. ap (λ (n : Ident). bytes_eq i.name n.name) (declared_same d)) p.decls

found_same : {A : Type 0} (f : Option Declaration → A) → ((d : Declaration) → f (Some (unplaced_declaration d)) ≡ f (Some d)) → (m : Option Declaration)
    → f (option_map unplaced_declaration m) ≡ f m
found_same f same None = refl
found_same f same (Some d) = same d

-- what is told by what a name means
pub meant_same : {A : Type 0} (f : Option Declaration → A) → ((d : Declaration) → f (Some (unplaced_declaration d)) ≡ f (Some d)) → (p : Program) (i : Ident)
    → f (meaning (without_places p) i) ≡ f (meaning p i)
meant_same f same p i = ap f (meaning_same p i) ∙ found_same f same (meaning p i)

topic_is : (d : Declaration) → is_topic (Some (unplaced_declaration d)) ≡ is_topic (Some d)
topic_is (a_topic t) = refl
topic_is (a_plant q) = refl
topic_is (a_node n) = refl
topic_is (a_module m) = refl

plant_is : (d : Declaration) → is_plant (Some (unplaced_declaration d)) ≡ is_plant (Some d)
plant_is (a_topic t) = refl
plant_is (a_plant q) = refl
plant_is (a_node n) = refl
plant_is (a_module m) = refl

node_is : (d : Declaration) → is_node (Some (unplaced_declaration d)) ≡ is_node (Some d)
node_is (a_topic t) = refl
node_is (a_plant q) = refl
node_is (a_node n) = refl
node_is (a_module m) = refl

environment_is : (d : Declaration) → is_environment (Some (unplaced_declaration d)) ≡ is_environment (Some d)
environment_is (a_topic t) = refl
environment_is (a_plant q) = refl
environment_is (a_node n) = refl
environment_is (a_module m) = refl

no_body : (b : Option Block) → is_none (option_map unplaced_block b) ≡ is_none b
no_body None = refl
no_body (Some b) = refl

external_is : (d : Declaration) → is_external (Some (unplaced_declaration d)) ≡ is_external (Some d)
external_is (a_topic t) = refl
external_is (a_plant q) = refl
external_is (a_node n) = no_body n.body
external_is (a_module m) = refl

topic_meant_is : (d : Declaration) → topic_meant (Some (unplaced_declaration d)) ≡ topic_meant (Some d)
topic_meant_is (a_topic t) = ap Some (topic_thing_same t)
topic_meant_is (a_plant q) = refl
topic_meant_is (a_node n) = refl
topic_meant_is (a_module m) = refl

plant_meant_is : (d : Declaration) → plant_meant (Some (unplaced_declaration d)) ≡ plant_meant (Some d)
plant_meant_is (a_topic t) = refl
plant_meant_is (a_plant q) = ap Some (plant_thing_same q)
plant_meant_is (a_node n) = refl
plant_meant_is (a_module m) = refl

either_meant_is : (d : Declaration) → either_meant (Some (unplaced_declaration d)) ≡ either_meant (Some d)
either_meant_is (a_topic t) = ap Some (topic_thing_same t)
either_meant_is (a_plant q) = ap Some (plant_thing_same q)
either_meant_is (a_node n) = refl
either_meant_is (a_module m) = refl

module _ (p : Program) (i : Ident) where
  pub is_topic_same : is_topic (meaning (without_places p) i) ≡ is_topic (meaning p i)
  is_topic_same = meant_same is_topic topic_is p i

  pub is_plant_same : is_plant (meaning (without_places p) i) ≡ is_plant (meaning p i)
  is_plant_same = meant_same is_plant plant_is p i

  pub is_node_same : is_node (meaning (without_places p) i) ≡ is_node (meaning p i)
  is_node_same = meant_same is_node node_is p i

  pub is_environment_same : is_environment (meaning (without_places p) i) ≡ is_environment (meaning p i)
  is_environment_same = meant_same is_environment environment_is p i

  pub is_external_same : is_external (meaning (without_places p) i) ≡ is_external (meaning p i)
  is_external_same = meant_same is_external external_is p i

-- the names that may be used
module _ (p : Program) where
  topics_meant : (is : List Ident) → filter_map (λ i. topic_meant (meaning (without_places p) i)) (map unplaced_name is)
      ≡ filter_map (λ i. topic_meant (meaning p i)) is
  topics_meant is =
      filter_same unplaced_name (λ i. topic_meant (meaning (without_places p) i)) (λ i. topic_meant (meaning p i)) (meant_same topic_meant topic_meant_is p) is

  plants_meant : (is : List Ident) → filter_map (λ i. plant_meant (meaning (without_places p) i)) (map unplaced_name is)
      ≡ filter_map (λ i. plant_meant (meaning p i)) is
  plants_meant is =
      filter_same unplaced_name (λ i. plant_meant (meaning (without_places p) i)) (λ i. plant_meant (meaning p i)) (meant_same plant_meant plant_meant_is p) is

  either_of : (is : List Ident) → filter_map (λ i. either_meant (meaning (without_places p) i)) (map unplaced_name is)
      ≡ filter_map (λ i. either_meant (meaning p i)) is
  either_of is =
      filter_same unplaced_name (λ i. either_meant (meaning (without_places p) i)) (λ i. either_meant (meaning p i)) (meant_same either_meant either_meant_is p)
      is

  pub node_scope_same : (n : Node) → node_scope (without_places p) (unplaced_node n) ≡ node_scope p n
  node_scope_same n = λ j. record {
    read = either_of n.reads j ++ map_same unplaced_local local_thing local_thing local_thing_same n.locals j;
    local = map_same unplaced_local local_thing local_thing local_thing_same n.locals j;
    written = topics_meant n.writes j;
  }

  pub state_scope_same : (q : Plant) → state_scope (unplaced_plant q) ≡ state_scope q
  state_scope_same q = map_same unplaced_state state_thing state_thing state_thing_same q.states

  pub plant_scope_same : (q : Plant) → plant_scope (without_places p) (unplaced_plant q) ≡ plant_scope p q
  plant_scope_same q = λ j.
      state_scope_same q j ++ topics_meant q.inputs j ++ plants_meant q.sees j ++ map_same unplaced_field noise_thing noise_thing noise_thing_same q.noise j

-- a name that is looked up
abbrev pub unplaced_reading : Reading → Reading
unplaced_reading (gives s) = gives s
unplaced_reading (nothing_at at) = nothing_at nowhere

part_same : (field : Ident) (o : Option Part) → part_reading (unplaced_name field) o ≡ unplaced_reading (part_reading field o)
part_same field None = refl
part_same field (Some x) = refl

parts_same : (first : Ident) (field : Option Ident) (parts : Parts)
    → parts_reading (unplaced_name first) (option_map unplaced_name field) parts ≡ unplaced_reading (parts_reading first field parts)
parts_same first None (alone s) = refl
parts_same first (Some field) (alone s) = refl
parts_same first None (several parts) = refl
parts_same first (Some field) (several parts) = part_same field (find (λ x. bytes_eq field.name x.name) parts)

thing_same : (first : Ident) (field : Option Ident) (o : Option Thing)
    → thing_reading (unplaced_name first) (option_map unplaced_name field) o ≡ unplaced_reading (thing_reading first field o)
thing_same first field None = refl
thing_same first field (Some x) = parts_same first field x.parts

pub reading_same : (things : List Thing) (first : Ident) (field : Option Ident)
    → reading things (unplaced_name first) (option_map unplaced_name field) ≡ unplaced_reading (reading things first field)
reading_same things first field = thing_same first field (find (λ x. bytes_eq first.name x.name) things)

pub reading_sort_same : (r : Reading) → reading_sort (unplaced_reading r) ≡ reading_sort r
reading_sort_same (gives s) = refl
reading_sort_same (nothing_at at) = refl

-- the sort of an expression
mutual
  pub sort_same : (names : List Thing) (e : Tree) → sort names (unplaced_tree e) ≡ sort names e
  sort_same names (number l) = refl
  sort_same names (truth b at) = refl
  sort_same names (named first field) = ap reading_sort (reading_same names first field) ∙ reading_sort_same (reading names first field)
  sort_same names (binary op a b at) = λ j.
      unless (kinds_misfit op (sort_same names a j) (sort_same names b j) || scales_misfit op (sort_same names a j) (sort_same names b j))
      (given (sort_same names a j) (given (sort_same names b j) (operator_sort op (sort_same names a j) (sort_same names b j))))
  sort_same names (rest a by at) = ap (λ s. unless (is_truthful s || (differ s (Scaled by.scale) || is_zero by)) s) (sort_same names a)
  sort_same names (negated a at) = ap (λ s. unless (is_truthful s) s) (sort_same names a)
  sort_same names (denied a at) = ap (λ s. unless (is_scaled s) s) (sort_same names a)
  sort_same names (called f parts at) = ap (λ ss. unless (list_any is_truthful ss || some_differ ss) (call_sort ss)) (sorts_same names parts)
  sort_same names (rescaled a to at) = ap (λ s. unless (is_truthful s || is_no_scale to) (given s (Scaled (nat_abs to.mantissa)))) (sort_same names a)
  sort_same names (chosen c a b at) = λ j.
      unless (branches_misfit (sort_same names c j) (sort_same names a j) (sort_same names b j) || differ (sort_same names a j) (sort_same names b j))
      (given (sort_same names c j) (given (sort_same names b j) (sort_same names a j)))

  pub sorts_same : (names : List Thing) (es : Trees) → sorts names (unplaced_trees es) ≡ sorts names es
  sorts_same names no_tree = refl
  sorts_same names (one_more e more) = λ j. sort_same names e j ∷ sorts_same names more j
