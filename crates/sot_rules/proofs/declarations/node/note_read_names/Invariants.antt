-- The loop of `note_read_names`: what is noted, and then what is left.
use Rattle.std.proofs.Common.{◌≡◌, drop}
use Rattle.std.specs.Prelude.{flat_map}
use Rattle.sot_rules.specs.Faults.{least, read_faults}
use Rattle.sot_rules.specs.Indexes.{program_in}
use Rattle.sot_rules.proofs.declarations.node.note_read_names.Given as goal

abbrev pub invariant-loop-name : goal.invariant-loop-name
invariant-loop-name l =
    least l.first (flat_map (read_faults (program_in l.index)) (drop l.name-index l.names))
    ≡ least l.fn.first (flat_map (read_faults (program_in l.index)) l.names)
