-- The loop of `note_disturbances`: what is noted, and then what is left.
use Rattle.std.proofs.Common.{◌≡◌, ◌++◌, drop}
use Rattle.std.specs.Prelude.{flat_map}
use Rattle.sot_syntax_tree.specs.Trees.{Plant}
use Rattle.sot_rules.specs.Tests.{state_names}
use Rattle.sot_rules.specs.Faults.{least, together, noise_lists}
use Rattle.sot_names.specs.SeenNames.{HasNames}
use Rattle.sot_rules.proofs.declarations.plant.note_disturbances.Given as goal
use Rattle.sot_names.specs.NameSets.{keys_in}

abbrev pub invariant-loop-f : goal.invariant-loop-f
invariant-loop-f l =
    (q : Plant) → HasNames (keys_in l.used) (state_names q ++ q.inputs ++ q.sees) →
    least l.first (flat_map (λ f. together (noise_lists q f)) (drop l.f-index l.noise))
    ≡ least l.fn.first (flat_map (λ f. together (noise_lists q f)) l.noise)
