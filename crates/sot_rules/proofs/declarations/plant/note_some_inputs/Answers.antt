-- Of `note_some_inputs`: its promises.
use Rattle.std.proofs.Common.{[]}
use Rattle.std.specs.Prelude.{flat_map}
use Rattle.sot_rules.specs.Names.{meaning}
use Rattle.sot_rules.specs.Tests.{topic_size}
use Rattle.sot_rules.specs.Faults.{repeats, passes, input_faults}
use Rattle.sot_rules.specs.Indexes.{program_in}
use Rattle.sot_rules.proofs.Sequences.{three_noted}
use Rattle.sot_rules.proofs.declarations.plant.note_some_inputs.Goals as goal

pub returns : goal.returns
returns c q held =
    let p = program_in c.args.index.now in
    let names = c.args.names.now in
    three_noted (flat_map (input_faults p q) names) (repeats [] names) (passes (λ i. topic_size (meaning p i)) 8 0 names) _ _ _ _
    (c.note_input_names.ensures q held)
    c.in_ok-note_repeated_names.ensures
    c.note_passes.ensures
