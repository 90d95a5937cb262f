-- The loop of `note_scales`: what is noted, and then what is left.
use Rattle.std.proofs.Common.{◌≡◌, drop}
use Rattle.std.specs.Prelude.{flat_map}
use Rattle.sot_rules.specs.Faults.{least, scale_faults}
use Rattle.sot_rules.proofs.declarations.plant.note_scales.Given as goal

abbrev pub invariant-loop-state : goal.invariant-loop-state
invariant-loop-state l =
    least l.first (flat_map (λ s. scale_faults s.scale) (drop l.state-index l.states))
    ≡ least l.fn.first (flat_map (λ s. scale_faults s.scale) l.states)
