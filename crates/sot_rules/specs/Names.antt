-- What names mean, and which names an owner's expressions may use.
use Rattle.std.specs.Prelude.{ℕ, Bool, true, false, List, ◌++◌, map, Option, Some, None, find}
use Rattle.std.specs.Prelude.{filter_map, is_none}
use Rattle.std.specs.Str.{bytes_eq}
use Rattle.sot_text.specs.declared.token.Span.{Span}
use Rattle.sot_syntax_tree.specs.declared.tree.Ident.{Ident}
use Rattle.sot_syntax_tree.specs.declared.tree.Field.{Field}
use Rattle.sot_syntax_tree.specs.declared.tree.StateDecl.{StateDecl}
use Rattle.sot_syntax_tree.specs.Trees.{Form, one, fields, Topic, Plant, Node, Local, Declaration}
use Rattle.sot_syntax_tree.specs.Trees.{a_topic}
use Rattle.sot_syntax_tree.specs.Trees.{a_plant, a_node, Program}
pub use Rattle.sot_names.specs.Names.{declared_name}
use Rattle.sot_rules.specs.declared.expressions.sort.Sort.{Sort}
use Rattle.sot_rules.specs.declared.expressions.sort.Sort.TheVariants.{Anything}
use Rattle.sot_rules.specs.Sorts.{scalar_sort, state_sort}

-- what a name of the program means: the first declaration of that name
abbrev pub meaning : Program → Ident → Option Declaration
meaning p i = find (λ d. bytes_eq i.name (declared_name d).name) p.decls

abbrev pub is_topic : Option Declaration → Bool
is_topic (Some (a_topic t)) = true
is_topic _ = false

abbrev pub is_plant : Option Declaration → Bool
is_plant (Some (a_plant q)) = true
is_plant _ = false

abbrev pub is_node : Option Declaration → Bool
is_node (Some (a_node n)) = true
is_node _ = false

-- an environment topic; a node without a body
abbrev pub is_environment : Option Declaration → Bool
is_environment (Some (a_topic t)) = t.outside
is_environment _ = false

abbrev pub is_external : Option Declaration → Bool
is_external (Some (a_node n)) = is_none n.body
is_external _ = false

-- A thing that may be named: one number or truth value, or several, which a second name tells
-- apart.
pub record Part : Type 0 where
  pub name : List ℕ
  pub sort : Sort

pub data Parts : Type 0 where
  alone : Sort → Parts
  several : List Part → Parts

pub record Thing : Type 0 where
  pub name : List ℕ
  pub parts : Parts

abbrev pub field_part : Field → Part
field_part f = record { name = f.name.name; sort = scalar_sort f.scalar }

abbrev pub state_part : StateDecl → Part
state_part s = record { name = s.name.name; sort = state_sort s }

abbrev pub form_parts : Form → Parts
form_parts (one s) = alone (scalar_sort s)
form_parts (fields fs) = several (map field_part fs)

abbrev pub topic_thing : Topic → Thing
topic_thing t = record { name = t.name.name; parts = form_parts t.shape }

abbrev pub plant_thing : Plant → Thing
plant_thing q = record { name = q.name.name; parts = several (map state_part q.states) }

abbrev pub local_thing : Local → Thing
local_thing l = record { name = l.name.name; parts = alone (scalar_sort l.scalar) }

abbrev pub state_thing : StateDecl → Thing
state_thing s = record { name = s.name.name; parts = alone (state_sort s) }

abbrev pub noise_thing : Field → Thing
noise_thing f = record { name = f.name.name; parts = alone (scalar_sort f.scalar) }

-- what a name adds in a list of topics, in a list of plants, and in one of both
abbrev pub topic_meant : Option Declaration → Option Thing
topic_meant (Some (a_topic t)) = Some (topic_thing t)
topic_meant _ = None

abbrev pub plant_meant : Option Declaration → Option Thing
plant_meant (Some (a_plant q)) = Some (plant_thing q)
plant_meant _ = None

abbrev pub either_meant : Option Declaration → Option Thing
either_meant (Some (a_topic t)) = Some (topic_thing t)
either_meant (Some (a_plant q)) = Some (plant_thing q)
either_meant _ = None

-- the names that a node's statements use: its expressions name what it reads and its locals, its
-- assignments the locals, and its publications the topics that it writes
pub record Scope : Type 0 where
  pub read : List Thing
  pub local : List Thing
  pub written : List Thing

abbrev pub node_scope : Program → Node → Scope
node_scope p n = record {
  read = filter_map (λ i. either_meant (meaning p i)) n.reads ++ map local_thing n.locals;
  local = map local_thing n.locals;
  written = filter_map (λ i. topic_meant (meaning p i)) n.writes;
}

-- the names that a plant's expressions use, and those that its `next` clauses give
abbrev pub state_scope : Plant → List Thing
state_scope q = map state_thing q.states

abbrev pub plant_scope : Program → Plant → List Thing
plant_scope p q =
    state_scope q
    ++ filter_map (λ i. topic_meant (meaning p i)) q.inputs
    ++ filter_map (λ i. plant_meant (meaning p i)) q.sees
    ++ map noise_thing q.noise

-- A name that is looked up: it gives a sort, or it is at fault at a place.
pub data Reading : Type 0 where
  gives : Sort → Reading
  nothing_at : Span → Reading

abbrev pub part_reading : Ident → Option Part → Reading
part_reading field None = nothing_at field.at
part_reading field (Some x) = gives x.sort

-- a thing of one number has no second name, and one of several needs it
abbrev pub parts_reading : Ident → Option Ident → Parts → Reading
parts_reading first None (alone s) = gives s
parts_reading first (Some field) (alone s) = nothing_at field.at
parts_reading first None (several parts) = nothing_at first.at
parts_reading first (Some field) (several parts) =
    part_reading field (find (λ x. bytes_eq field.name x.name) parts)

abbrev pub thing_reading : Ident → Option Ident → Option Thing → Reading
thing_reading first field None = nothing_at first.at
thing_reading first field (Some x) = parts_reading first field x.parts

-- a name means the first thing of that name
abbrev pub reading : List Thing → Ident → Option Ident → Reading
reading things first field =
    thing_reading first field (find (λ x. bytes_eq first.name x.name) things)

abbrev pub reading_sort : Reading → Sort
reading_sort (gives s) = s
reading_sort (nothing_at at) = Anything
