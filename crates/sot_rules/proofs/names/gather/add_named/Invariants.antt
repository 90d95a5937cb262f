-- The loop of `add_named`: the names so far are in the table.
use Rattle.std.proofs.Common.{List, ◌++◌, take}
use Rattle.std.specs.List.{filter_map}
use Rattle.sot_rules.specs.Names.{Thing, meaning}
use Rattle.sot_rules.specs.Indexes.{program_in}
use Rattle.sot_rules.specs.Alike.{StandsFor, tables_in}
use Rattle.sot_rules.specs.NameLists.{thing_of_list}
use Rattle.sot_rules.proofs.names.gather.add_named.Given as goal

abbrev pub invariant-loop-name : goal.invariant-loop-name
invariant-loop-name l =
    (xs : List Thing) → StandsFor (tables_in l.index) l.fn.things xs
    → StandsFor (tables_in l.index) l.things (xs ++ filter_map (λ i. thing_of_list l.list (meaning (program_in l.index) i)) (take l.name-index l.names))
