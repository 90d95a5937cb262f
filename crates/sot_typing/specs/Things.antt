-- The names of an owner, as the code keeps them.
use Rattle.std.specs.Prelude.{◌≤◌, List, map, length, Option}
use Rattle.sot_syntax_tree.specs.declared.tree.Ident.{Ident}
use Rattle.sot_rules.specs.Names.{Parts, alone, several, Thing, field_part, state_part, reading}
use Rattle.sot_rules.specs.Names.{reading_sort}
use Rattle.sot_typing.specs.declared.names.things.Parts.{Parts as KeptParts}
use Rattle.sot_typing.specs.declared.names.things.Parts.TheVariants.{Alone, Fields, States}
use Rattle.sot_typing.specs.declared.names.things.Thing.{Thing as Kept}
use Rattle.sot_typing.specs.Terms.{references, sort_scale}

abbrev pub parts_in : KeptParts → Parts
parts_in (Alone s) = alone s
parts_in (Fields fs) = several (map field_part fs.now)
parts_in (States ss) = several (map state_part ss.now)

abbrev pub thing_in : Kept → Thing
thing_in x = record { name = x.name.now.name; parts = parts_in x.parts }

abbrev pub things_in : List Kept → List Thing
things_in xs = map thing_in xs

-- an owner has at most 80 numbers, and each that is named has at most 6 decimals
pub record AreFew (things : List Thing) : Type 0 where
  pub count : length (references things) ≤ 80
  pub decimals : (first : Ident) (field : Option Ident)
      → sort_scale (reading_sort (reading things first field)) ≤ 6
