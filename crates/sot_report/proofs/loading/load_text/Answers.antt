use Rattle.std.proofs.Common.{Err, ap, sym, subst, ◌∙◌}
use Rattle.sot_sections.specs.Sections.{parts_of}
use Rattle.sot_law_fault_place.proofs.ExactPlaces.{fault_is_placed}
use Rattle.sot_report.specs.declared.fault.Fault.TheVariants as faults
use Rattle.sot_report.specs.declared.fault.LoadFail.TheVariants as fails
use Rattle.sot_report.specs.Loads.{IfFault, FailsText}
use Rattle.sot_law_print_parse.proofs.FormedPrograms.{spelled_formed}
use Rattle.sot_report.proofs.loading.load_text.Goals as goal

pub load_tree-loaded-requires : goal.load_tree-loaded-requires
load_tree-loaded-requires c = record { formed = spelled_formed _ _ _ c.in-Ok.ensures.ok }

pub returns-in-Err-Syntax-clause-fault : goal.returns-in-Err-Syntax-clause-fault
returns-in-Err-Syntax-clause-fault c =
    let is = ap (λ e. Err e) c.in-Err-Syntax.field-0-is in
    let none = c.in-Err-Syntax.ensures.syntax c.in-Err-Syntax.fault is in
    let place = c.in-Err-Syntax.ensures.place c.in-Err-Syntax.fault is in
    subst (λ e. IfFault e (FailsText (parts_of c.args.sections) c.args.guests))
    (sym (c.misspelled.ensures ∙ ap (λ f. fails.Fault (faults.Syntax f)) c.in-Err-Syntax.fault-is))
    (let nothing = rw (c.new.ensures.bytes, c.new.ensures.at) at none in
    (nothing, fault_is_placed c.args.sections.program.now 0 c.in-Err-Syntax.fault nothing (rw (c.new.ensures.bytes, c.new.ensures.at) at place)))
