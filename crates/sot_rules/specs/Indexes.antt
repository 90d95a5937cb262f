-- The declarations of a program by their names, as the code keeps them.
use Rattle.std.specs.Prelude.{◌≡◌, ℕ, Bool, List, [], map, find, position, Option, option_map}
use Rattle.std.specs.List.{list_any}
use Rattle.std.specs.Str.{bytes_eq}
use denote.Ref.{Bor}
use Rattle.sot_syntax_tree.specs.declared.tree.Ident.{Ident}
use Rattle.sot_syntax_tree.specs.Trees.{Form, one, fields, Declaration, a_topic, a_plant, Program}
use Rattle.sot_syntax_tree.specs.TreeViews.{declaration_view}
use Rattle.sot_rules.specs.declared.expressions.sort.Sort.{Sort}
use Rattle.sot_rules.specs.declared.names.index.Index.{Index}
use Rattle.sot_rules.specs.Names.{Part, field_part, state_part, declared_name}
use Rattle.sot_rules.specs.Tests.{is_plant_of}
use Rattle.sot_names.specs.NameTables.{found}
use Rattle.sot_rules.specs.Scopes.{parts_of}

-- the program that is looked into
abbrev pub program_in : Index → Program
program_in x = record { decls = map declaration_view x.decls.now }

abbrev pub is_named : List ℕ → Declaration → Bool
is_named name d = bytes_eq name (declared_name d).name

abbrev pub form_fields : Form → List Part
form_fields (one s) = []
form_fields (fields fs) = map field_part fs

-- the parts of a declaration that has several: the fields of a record, the state variables of a
-- plant
abbrev pub declared_parts : Declaration → List Part
declared_parts (a_topic t) = form_fields t.shape
declared_parts (a_plant q) = map state_part q.states
declared_parts _ = []

-- the sort of the first part of a name
abbrev pub sort_in : List Part → List ℕ → Option Sort
sort_in parts name = option_map (λ x. x.sort) (find (λ x. bytes_eq name x.name) parts)

-- whether a name is one of these keys
abbrev pub is_key : List (Bor (List ℕ)) → Ident → Bool
is_key keys i = list_any (λ k. bytes_eq i.name k.now) keys

-- the tables hold these declarations
pub record Indexes (ds : List Declaration) (x : Index) : Type 0 where
  -- a name gives the place of its first declaration
  pub places : (name : List ℕ) → found x.places name ≡ position (is_named name) ds
  -- a name is owned where some module names it as its plant
  pub owned : (i : Ident) → is_key x.owned.keys i ≡ list_any (is_plant_of i) ds
  -- the tables of parts stand in the order of the declarations, and give what their parts do
  pub parts : (name : List ℕ) → map (λ t. sort_in (parts_of t) name) x.parts.items
      ≡ map (λ d. sort_in (declared_parts d) name) ds

-- the tables hold all declarations of their program
abbrev pub IsIndex : Index → Type 0
IsIndex x = Indexes (map declaration_view x.decls.now) x
