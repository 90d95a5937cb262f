-- The loop of `note_areas`: what is noted, and then what is left.
use Rattle.std.proofs.Common.{◌≡◌, map, drop}
use Rattle.std.specs.Prelude.{flat_map}
use Rattle.sot_syntax_tree.specs.TreeViews.{area_view}
use Rattle.sot_rules.specs.Scopes.{sorts_in}
use Rattle.sot_rules.specs.Faults.{least, area_faults}
use Rattle.sot_rules.proofs.declarations.region.note_areas.Given as goal

abbrev pub invariant-loop-area : goal.invariant-loop-area
invariant-loop-area l =
    least l.first (flat_map (area_faults (sorts_in l.states)) (map area_view (drop l.area-index l.boxes)))
    ≡ least l.fn.first (flat_map (area_faults (sorts_in l.states)) (map area_view l.boxes))
