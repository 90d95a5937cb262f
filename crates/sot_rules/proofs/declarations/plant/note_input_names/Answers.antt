-- Of `note_input_names`: that its loop keeps what it says, and its promises.
use Rattle.std.proofs.Common.{refl}
use Rattle.std.specs.Prelude.{flat_map}
use Rattle.sot_rules.specs.Faults.{input_faults}
use Rattle.sot_rules.specs.Indexes.{program_in}
use Rattle.sot_rules.proofs.Loops.{step_each, none_left}
use Rattle.sot_rules.proofs.declarations.plant.note_input_names.Goals as goal

pub loop-name-preserved : goal.loop-name-preserved
loop-name-preserved c q held =
    step_each (input_faults (program_in c.args.index.now) q) c.args.names.now c.loop-name.name-index c.name-item.result _ _ _
    c.loop-name-test.true c.name-item.is (c.loop-name.invariant q held) (c.note_input.ensures q held)

pub returns : goal.returns
returns c q held =
    none_left (λ is. flat_map (input_faults (program_in c.args.index.now) q) is) refl c.args.names.now c.loop-name.name-index
    _ _ c.loop-name-test.false (c.loop-name.invariant q held)
