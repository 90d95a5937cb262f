-- The loop of `note_sides`: what is noted, and then what is left.
use Rattle.std.proofs.Common.{◌≡◌, false, map, drop}
use Rattle.std.specs.Prelude.{flat_map, zip}
use Rattle.sot_rules.specs.Sorts.{state_sort}
use Rattle.sot_rules.specs.Faults.{least, bounds_faults}
use Rattle.sot_rules.proofs.declarations.region.note_sides.Given as goal

abbrev pub invariant-loop-i : goal.invariant-loop-i
invariant-loop-i l =
    least l.first (flat_map (λ x. bounds_faults false x.0 x.1) (drop l.i (zip (map state_sort l.states) l.sides)))
    ≡ least l.fn.first (flat_map (λ x. bounds_faults false x.0 x.1) (zip (map state_sort l.states) l.sides))
