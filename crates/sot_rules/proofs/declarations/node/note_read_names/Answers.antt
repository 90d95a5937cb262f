-- Of `note_read_names`: that its loop keeps what it says.
use Rattle.sot_rules.specs.Faults.{read_faults}
use Rattle.sot_rules.specs.Indexes.{program_in}
use Rattle.sot_rules.proofs.Loops.{step_each}
use Rattle.sot_rules.proofs.declarations.node.note_read_names.Goals as goal

pub loop-name-preserved : goal.loop-name-preserved
loop-name-preserved c =
    step_each (read_faults (program_in c.args.index.now)) c.args.names.now c.loop-name.name-index c.name-item.result _ _ _
    c.loop-name-test.true c.name-item.is c.loop-name.invariant c.note_read.ensures
