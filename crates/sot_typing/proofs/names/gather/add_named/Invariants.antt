-- The loop of `add_named`: what the names so far mean stands behind the others, and then what is left.
use Rattle.std.proofs.Common.{◌≡◌, ◌++◌, drop, filter_map}
use Rattle.sot_rules.specs.Names.{meaning}
use Rattle.sot_rules.specs.Indexes.{program_in}
use Rattle.sot_typing.specs.Things.{things_in}
use Rattle.sot_rules.specs.NameLists.{thing_of_list}
use Rattle.sot_typing.proofs.names.gather.add_named.Given as goal

abbrev pub invariant-loop-name : goal.invariant-loop-name
invariant-loop-name l =
    things_in l.things.items ++ filter_map (λ i. thing_of_list l.list (meaning (program_in l.index) i)) (drop l.name-index l.names)
    ≡ things_in l.fn.things.items ++ filter_map (λ i. thing_of_list l.list (meaning (program_in l.index) i)) l.names
