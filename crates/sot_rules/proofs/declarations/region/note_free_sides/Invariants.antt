-- The loop of `note_free_sides`: what is noted, and then what is left.
use Rattle.std.proofs.Common.{◌≡◌, false, map, drop}
use Rattle.std.specs.Prelude.{flat_map}
use Rattle.sot_syntax_tree.specs.declared.tree.Bounds.{Bounds}
use Rattle.sot_rules.specs.declared.expressions.sort.Sort.{Sort}
use Rattle.sot_rules.specs.declared.expressions.sort.Sort.TheVariants.{Anything}
use Rattle.sot_rules.specs.Faults.{least, bounds_faults}
use Rattle.sot_rules.proofs.declarations.region.note_free_sides.Given as goal

abbrev pub invariant-loop-side : goal.invariant-loop-side
invariant-loop-side l =
    least l.first (flat_map (λ (x : Sort × Bounds). bounds_faults false x.0 x.1) (map (λ s. (Anything, s)) (drop l.side-index l.sides)))
    ≡ least l.fn.first (flat_map (λ (x : Sort × Bounds). bounds_faults false x.0 x.1) (map (λ s. (Anything, s)) l.sides))
