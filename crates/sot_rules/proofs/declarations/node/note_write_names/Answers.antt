-- Of `note_write_names`: that its loop keeps what it says, and its promises.
use Rattle.std.proofs.Common.{refl}
use Rattle.std.specs.Prelude.{flat_map}
use Rattle.sot_rules.specs.Faults.{together, write_lists}
use Rattle.sot_rules.specs.Indexes.{program_in}
use Rattle.sot_rules.proofs.Loops.{step_each, none_left}
use Rattle.sot_rules.proofs.declarations.node.note_write_names.Goals as goal

pub loop-name-preserved : goal.loop-name-preserved
loop-name-preserved c n held =
    step_each (λ i. together (write_lists (program_in c.args.index.now) n i)) c.args.names.now c.loop-name.name-index c.name-item.result _ _ _
    c.loop-name-test.true c.name-item.is (c.loop-name.invariant n held) (c.note_write.ensures n held)

pub returns : goal.returns
returns c n held =
    none_left (λ is. flat_map (λ i. together (write_lists (program_in c.args.index.now) n i)) is) refl c.args.names.now c.loop-name.name-index
    _ _ c.loop-name-test.false (c.loop-name.invariant n held)
