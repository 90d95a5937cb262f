-- The loop of `note_write_names`: what is noted, and then what is left.
use Rattle.std.proofs.Common.{◌≡◌, drop}
use Rattle.std.specs.Prelude.{flat_map}
use Rattle.sot_syntax_tree.specs.Trees.{Node}
use Rattle.sot_rules.specs.Faults.{least, together, write_lists}
use Rattle.sot_rules.specs.Indexes.{program_in}
use Rattle.sot_names.specs.SeenNames.{HasNames}
use Rattle.sot_rules.proofs.declarations.node.note_write_names.Given as goal
use Rattle.sot_names.specs.NameSets.{keys_in}

abbrev pub invariant-loop-name : goal.invariant-loop-name
invariant-loop-name l =
    (n : Node) → HasNames (keys_in l.reads) n.reads →
    least l.first (flat_map (λ i. together (write_lists (program_in l.index) n i)) (drop l.name-index l.names))
    ≡ least l.fn.first (flat_map (λ i. together (write_lists (program_in l.index) n i)) l.names)
