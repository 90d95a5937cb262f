-- Lists of things that read alike, and tables of names that stand for lists of things.
use Rattle.std.specs.Prelude.{◌++◌, ◌≡◌, ℕ, List, map, find, Option, Some, None, option_map}
use Rattle.std.specs.Str.{bytes_eq}
use Rattle.sot_syntax_tree.specs.declared.tree.Ident.{Ident}
use Rattle.sot_syntax_tree.specs.Trees.{Form, one, fields, Declaration, a_topic, a_plant}
use Rattle.sot_rules.specs.declared.names.index.Index.{Index}
use Rattle.sot_rules.specs.declared.names.scope.Kept.{Kept}
use Rattle.sot_rules.specs.declared.names.scope.Things.{Things}
use Rattle.sot_rules.specs.declared.names.scope.Kept.TheVariants.{Alone, Several}
use Rattle.sot_rules.specs.declared.names.gather.NameList.{NameList}
use Rattle.sot_rules.specs.declared.names.gather.NameList.TheVariants.{Topics, Plants, Both}
use Rattle.sot_rules.specs.Sorts.{scalar_sort}
use Rattle.sot_rules.specs.Names.{Part, Parts, Thing, Scope, parts_reading, reading}
use Rattle.sot_rules.specs.NameTables.{found_in}
use Rattle.sot_rules.specs.Scopes.{parts_of, kept_parts}

-- each name gives the same in both lists, or is at fault at the same place
abbrev pub ReadsAlike : List Thing → List Thing → Type 0
ReadsAlike xs ys =
    (first : Ident) (field : Option Ident) → reading xs first field ≡ reading ys first field

pub record ScopesAlike (a b : Scope) : Type 0 where
  pub read : ReadsAlike a.read b.read
  pub local : ReadsAlike a.local b.local
  pub written : ReadsAlike a.written b.written

abbrev pub PartsAlike : Parts → Parts → Type 0
PartsAlike a b =
    (first : Ident) (field : Option Ident)
    → parts_reading first field a ≡ parts_reading first field b

-- no parts on both sides, or parts that read alike
abbrev pub AreAlike : Option Parts → Option Parts → Type 0
AreAlike None None = Unit {0}
AreAlike None (Some b) = ⊥
AreAlike (Some a) None = ⊥
AreAlike (Some a) (Some b) = PartsAlike a b

-- what a name stands for in a list
abbrev pub parts_found : List Thing → List ℕ → Option Parts
parts_found xs name = option_map (λ x. x.parts) (find (λ x. bytes_eq name x.name) xs)

-- the table stands for the list: each name stands for the same in both
abbrev pub StandsFor : List (List Part) → Things → List Thing → Type 0
StandsFor tables m xs =
    (name : List ℕ) → AreAlike (option_map (kept_parts tables) (found_in m name))
    (parts_found xs name)

-- the table takes in these things, after those that it stands for
abbrev pub Adds : List (List Part) → Things → Things → List Thing → Type 0
Adds tables old new ys =
    (xs : List Thing) → StandsFor tables old xs → StandsFor tables new (xs ++ ys)

-- what is kept of a name stands for the thing that it adds to a list, where it adds one
abbrev pub StandsForThing : List (List Part) → List ℕ → Option Kept → Option Thing → Type 0
StandsForThing tables name None None = Unit {0}
StandsForThing tables name None (Some x) = ⊥
StandsForThing tables name (Some s) None = ⊥
StandsForThing tables name (Some s) (Some x) =
    (name ≡ x.name) × PartsAlike (kept_parts tables s) x.parts

-- the parts of each declaration
abbrev pub tables_in : Index → List (List Part)
tables_in x = map parts_of x.parts.items

abbrev pub form_kept : ℕ → Form → Kept
form_kept k (one s) = Alone (scalar_sort s)
form_kept k (fields fs) = Several k

abbrev pub topic_kept : NameList → Kept → Option Kept
topic_kept Topics s = Some s
topic_kept Plants s = None
topic_kept Both s = Some s

abbrev pub plant_kept : NameList → Kept → Option Kept
plant_kept Topics s = None
plant_kept Plants s = Some s
plant_kept Both s = Some s

-- what is kept of a name that means the declaration at this place
abbrev pub kept_of_list : NameList → ℕ → Declaration → Option Kept
kept_of_list list k (a_topic t) = topic_kept list (form_kept k t.shape)
kept_of_list list k (a_plant q) = plant_kept list (Several k)
kept_of_list list k _ = None
