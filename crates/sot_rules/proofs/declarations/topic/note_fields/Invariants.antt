-- The loop of `note_fields`: what is noted, and then what is left.
use Rattle.std.proofs.Common.{◌≡◌, true, map, drop}
use Rattle.std.specs.Prelude.{flat_map}
use Rattle.sot_rules.specs.Faults.{least, scalar_faults}
use Rattle.sot_rules.proofs.declarations.topic.note_fields.Given as goal

abbrev pub invariant-loop-field : goal.invariant-loop-field
invariant-loop-field l =
    least l.first (flat_map (scalar_faults true) (map (λ f. f.scalar) (drop l.field-index l.fields)))
    ≡ least l.fn.first (flat_map (scalar_faults true) (map (λ f. f.scalar) l.fields))
