-- The faults of a plant's `next` clauses.
use Rattle.std.specs.Prelude.{List, ◌++◌, None, flat_map, length, nat_lt}
use Rattle.sot_syntax_tree.specs.Trees.{Next, Plant, Program}
use Rattle.sot_rules.specs.declared.fault.TypeFault.{TypeFault}
use Rattle.sot_rules.specs.declared.fault.TypeKind.TheVariants.{NextMissing}
use Rattle.sot_rules.specs.Names.{Thing, reading}
use Rattle.sot_rules.specs.TreeSorts.{sort}
use Rattle.sot_rules.specs.Faults.{next_faults, order_faults, target_faults, tree_faults, when}

-- of one clause, over the names that its expression uses and those that it may give
abbrev pub next_faults_in : List Thing → List Thing → Next → List TypeFault
next_faults_in used given n =
    tree_faults used n.value ++ target_faults (reading given n.name None) (sort used n.value)
    n.name.at

-- the faults of a plant's `next` clauses, in the order of its list of faults
abbrev pub nexts_faults : Program → Plant → List TypeFault
nexts_faults p q =
    flat_map (next_faults p q) q.next
    ++ (order_faults q.states q.next ++ when (nat_lt (length q.next) (length q.states)) q.end
    NextMissing)
