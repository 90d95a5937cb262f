-- The names that the code keeps in tables, as the things that they stand for.
use Rattle.std.specs.Prelude.{ℕ, List, [], map, slice_index_or, Option, Some, None, option_map}
use Rattle.std.specs.Prelude.{Result, Ok, Err}
use denote.Ref.{Bor}
use Rattle.indexmap.specs.IndexMap.{IndexMap}
use Rattle.sot_text.specs.declared.token.Span.{Span}
use Rattle.sot_syntax_tree.specs.declared.tree.Ident.{Ident}
use Rattle.sot_syntax_tree.specs.declared.tree.StateDecl.{StateDecl}
use Rattle.sot_rules.specs.declared.expressions.sort.Sort.{Sort}
use Rattle.sot_rules.specs.declared.names.scope.Names.{Names}
use Rattle.sot_rules.specs.declared.names.scope.Things.{Things}
use Rattle.sot_rules.specs.declared.names.scope.PartTable.{PartTable}
use Rattle.sot_rules.specs.declared.names.scope.PartTable.TheVariants.{Nothing, Fields, States}
use Rattle.sot_rules.specs.declared.names.scope.PartTable.TheVariants.{Table}
use Rattle.sot_rules.specs.declared.names.scope.Scope.{Scope as CodeScope}
use Rattle.sot_rules.specs.declared.names.scope.Kept.{Kept}
use Rattle.sot_rules.specs.declared.names.scope.Kept.TheVariants.{Alone, Several}
use Rattle.sot_rules.specs.Sorts.{state_sort}
use Rattle.sot_rules.specs.NameTables.{entries_in}
use Rattle.sot_rules.specs.Names.{Part, field_part, state_part, Parts, alone, several, Thing, Scope}
use Rattle.sot_rules.specs.Names.{Reading, gives, nothing_at, parts_reading}

-- the parts that a table has
abbrev pub parts_in : {S : Type 0} → IndexMap (Bor (List ℕ)) Sort S → List Part
parts_in m = map (λ e. record { name = e.0.now; sort = e.1 }) m.entries

-- the parts of one thing, by their names
abbrev pub parts_of : PartTable → List Part
parts_of Nothing = []
parts_of (Fields fs) = map field_part fs.now
parts_of (States ss) = map state_part ss.now
parts_of (Table m) = parts_in m.value

-- what a name stands for, where its parts are in one of the tables
abbrev pub kept_parts : List (List Part) → Kept → Parts
kept_parts tables (Alone s) = alone s
kept_parts tables (Several k) = several (slice_index_or tables k [])

abbrev pub things_of : List PartTable → Things → List Thing
things_of tables m =
    map (λ e. record { name = e.0.now; parts = kept_parts (map parts_of tables) e.1 })
    (entries_in m)

-- what a look-up answers: a sort, or the place of the fault
abbrev pub answer : Result Sort Span → Reading
answer (Ok s) = gives s
answer (Err at) = nothing_at at

-- a second name, where there is one
abbrev pub field_in : Option (Bor Ident) → Option Ident
field_in field = option_map (λ (f : Bor Ident). f.now) field

-- what a thing's name gives, where it is one
abbrev pub reading_of : {X : Type 0} → (X → Parts) → Ident → Option Ident → Option X → Reading
reading_of f first field None = nothing_at first.at
reading_of f first field (Some x) = parts_reading first field (f x)

-- the names that some expressions may use
unfoldable pub names_in : Names → List Thing
names_in n = things_of n.tables.now n.things

abbrev pub scope_in : CodeScope → Scope
scope_in s =
    record { read = names_in s.read; local = names_in s.local; written = names_in s.written }

-- the sorts of the state variables of a plant, where it is known
abbrev pub sorts_in : Option (Bor (List StateDecl)) → Option (List Sort)
sorts_in states = option_map (λ (s : Bor (List StateDecl)). map state_sort s.now) states
