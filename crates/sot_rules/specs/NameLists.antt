-- What a name adds to a list of names, by the kind of list.
use Rattle.std.specs.Prelude.{List, Option, filter_map}
use Rattle.sot_syntax_tree.specs.declared.tree.Ident.{Ident}
use Rattle.sot_syntax_tree.specs.Trees.{Declaration, Program}
use Rattle.sot_rules.specs.declared.names.gather.NameList.{NameList}
use Rattle.sot_rules.specs.declared.names.gather.NameList.TheVariants.{Topics, Plants, Both}
use Rattle.sot_rules.specs.Names.{Thing, meaning, topic_meant, plant_meant, either_meant}

abbrev pub thing_of_list : NameList → Option Declaration → Option Thing
thing_of_list Topics d = topic_meant d
thing_of_list Plants d = plant_meant d
thing_of_list Both d = either_meant d

-- the things of a list of names
abbrev pub things_of_list : Program → NameList → List Ident → List Thing
things_of_list p list names = filter_map (λ i. thing_of_list list (meaning p i)) names
