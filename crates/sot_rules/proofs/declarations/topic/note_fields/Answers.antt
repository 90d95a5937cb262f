-- Of `note_fields`: that its loop keeps what it says.
use Rattle.std.proofs.Common.{refl, true, map, List}
use Rattle.std.specs.Prelude.{flat_map}
use Rattle.sot_syntax_tree.specs.declared.tree.Field.{Field}
use Rattle.sot_rules.specs.Faults.{scalar_faults}
use Rattle.sot_rules.proofs.Loops.{step_least}
use Rattle.sot_rules.proofs.declarations.topic.note_fields.Goals as goal

pub loop-field-preserved : goal.loop-field-preserved
loop-field-preserved c =
    step_least (λ (fs : List Field). flat_map (scalar_faults true) (map (λ f. f.scalar) fs)) (λ f. scalar_faults true f.scalar) (λ x more. refl)
    c.args.fields.now c.loop-field.field-index c.field-item.result _ _ _ c.loop-field-test.true c.field-item.is c.loop-field.invariant
    c.note_scalar.ensures
