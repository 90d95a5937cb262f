-- The loop of `note_pairs`: what is noted, and then what is left.
use Rattle.std.proofs.Common.{◌≡◌, drop}
use Rattle.std.specs.Prelude.{flat_map, zip}
use Rattle.sot_syntax_tree.specs.TreeViews.{shape_view, init_view}
use Rattle.sot_rules.specs.Tests.{form_scalars, start_values}
use Rattle.sot_rules.specs.Faults.{least, start_faults}
use Rattle.sot_rules.proofs.declarations.topic.note_pairs.Given as goal

abbrev pub invariant-loop-i : goal.invariant-loop-i
invariant-loop-i l =
    least l.first (flat_map (λ x. start_faults x.0 x.1) (drop l.i (zip (form_scalars (shape_view l.shape)) (start_values (init_view l.init)))))
    ≡ least l.fn.first (flat_map (λ x. start_faults x.0 x.1) (zip (form_scalars (shape_view l.shape)) (start_values (init_view l.init))))
