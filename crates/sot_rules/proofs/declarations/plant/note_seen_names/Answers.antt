-- Of `note_seen_names`: that its loop keeps what it says.
use Rattle.sot_syntax_tree.specs.TreeViews.{plant_view}
use Rattle.sot_rules.specs.Faults.{together, seen_lists}
use Rattle.sot_rules.specs.Indexes.{program_in}
use Rattle.sot_rules.proofs.Loops.{step_each}
use Rattle.sot_rules.proofs.declarations.plant.note_seen_names.Goals as goal

pub loop-name-preserved : goal.loop-name-preserved
loop-name-preserved c =
    step_each (λ i. together (seen_lists (program_in c.args.index.now) (plant_view c.args.q.now) i)) c.args.names.now c.loop-name.name-index c.name-item.result
    _ _ _
    c.loop-name-test.true c.name-item.is c.loop-name.invariant c.note_seen.ensures
