-- The loop of `note_input_names`: what is noted, and then what is left.
use Rattle.std.proofs.Common.{◌≡◌, drop}
use Rattle.std.specs.Prelude.{flat_map}
use Rattle.sot_syntax_tree.specs.Trees.{Plant}
use Rattle.sot_rules.specs.Tests.{state_names}
use Rattle.sot_rules.specs.Faults.{least, input_faults}
use Rattle.sot_rules.specs.Indexes.{program_in}
use Rattle.sot_names.specs.SeenNames.{HasNames}
use Rattle.sot_rules.proofs.declarations.plant.note_input_names.Given as goal
use Rattle.sot_names.specs.NameSets.{keys_in}

abbrev pub invariant-loop-name : goal.invariant-loop-name
invariant-loop-name l =
    (q : Plant) → HasNames (keys_in l.states) (state_names q) →
    least l.first (flat_map (input_faults (program_in l.index) q) (drop l.name-index l.names))
    ≡ least l.fn.first (flat_map (input_faults (program_in l.index) q) l.names)
