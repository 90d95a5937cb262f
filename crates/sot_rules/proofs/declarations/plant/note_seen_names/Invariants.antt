-- The loop of `note_seen_names`: what is noted, and then what is left.
use Rattle.std.proofs.Common.{◌≡◌, drop}
use Rattle.std.specs.Prelude.{flat_map}
use Rattle.sot_syntax_tree.specs.TreeViews.{plant_view}
use Rattle.sot_rules.specs.Faults.{least, together, seen_lists}
use Rattle.sot_rules.specs.Indexes.{program_in}
use Rattle.sot_rules.proofs.declarations.plant.note_seen_names.Given as goal

abbrev pub invariant-loop-name : goal.invariant-loop-name
invariant-loop-name l =
    least l.first (flat_map (λ i. together (seen_lists (program_in l.index) (plant_view l.q) i)) (drop l.name-index l.names))
    ≡ least l.fn.first (flat_map (λ i. together (seen_lists (program_in l.index) (plant_view l.q) i)) l.names)
