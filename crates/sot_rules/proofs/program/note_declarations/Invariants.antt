-- The loop of `note_declarations`: what is noted, and then what is left.
use Rattle.std.proofs.Common.{◌≡◌, map, drop}
use Rattle.std.specs.Prelude.{flat_map}
use Rattle.sot_syntax_tree.specs.TreeViews.{declaration_view}
use Rattle.sot_rules.specs.Faults.{least, declaration_faults}
use Rattle.sot_rules.specs.Indexes.{program_in}
use Rattle.sot_rules.proofs.program.note_declarations.Given as goal

abbrev pub invariant-loop-d : goal.invariant-loop-d
invariant-loop-d l =
    least l.first (flat_map (declaration_faults (program_in l.index)) (map declaration_view (drop l.d-index l.decls)))
    ≡ least l.fn.first (flat_map (declaration_faults (program_in l.index)) (map declaration_view l.decls))
