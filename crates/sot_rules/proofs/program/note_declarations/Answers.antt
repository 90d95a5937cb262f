-- Of `note_declarations`: that its loop keeps what it says.
use Rattle.sot_syntax_tree.specs.TreeViews.{declaration_view}
use Rattle.sot_rules.specs.Faults.{declaration_faults}
use Rattle.sot_rules.specs.Indexes.{program_in}
use Rattle.sot_rules.proofs.Loops.{step_viewed}
use Rattle.sot_rules.proofs.program.note_declarations.Goals as goal

pub loop-d-preserved : goal.loop-d-preserved
loop-d-preserved c =
    step_viewed declaration_view (declaration_faults (program_in c.args.index.now)) c.args.decls.now c.loop-d.d-index c.d-item.result _ _ _
    c.loop-d-test.true c.d-item.is c.loop-d.invariant c.in_ok-note_declaration.ensures
