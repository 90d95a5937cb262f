use Rattle.std.proofs.Common.{subst, sym, ap, ◌∙◌}
use Rattle.sot_syntax_tree.specs.TreeViews.{program_view}
use Rattle.sot_sections.specs.Sections.{parts_of}
use Rattle.sot_report.specs.declared.fault.Fault.TheVariants as faults
use Rattle.sot_report.specs.declared.fault.LoadFail.TheVariants as fails
use Rattle.sot_report.specs.Loads.{IfFault, FailsTree}
use Rattle.sot_report.proofs.loading.load_tree.Goals as goal

pub returns-in-Err-Fault-clause-fault : goal.returns-in-Err-Fault-clause-fault
returns-in-Err-Fault-clause-fault c =
    subst (λ e. IfFault e (FailsTree (program_view c.args.program.now) (parts_of c.args.sections) c.args.guests))
    (sym (c.mistyped.ensures ∙ ap (λ f. fails.Fault (faults.Typing f)) c.in-Err-Fault.fault-is))
    (c.in-Err-Fault.ensures.fault c.in-Err-Fault.fault c.in-Err-Fault.field-0-is)
