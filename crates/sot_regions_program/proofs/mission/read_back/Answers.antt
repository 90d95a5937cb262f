use Rattle.std.proofs.Common.{subst}
use Rattle.sot_sections.specs.declared.mission.Need.TheVariants as needs
use Rattle.sot_report.specs.Missions.{HasFault}
use Rattle.sot_report.specs.Loads.{IfFault}
use Rattle.sot_regions_program.proofs.Spelled.{written_faulty}
use Rattle.sot_regions_program.proofs.mission.read_back.Goals as goal

pub unreachable-requires : goal.unreachable-requires
unreachable-requires c =
    let has = subst (λ e. IfFault e (HasFault needs.Check 0 c.args.text.now)) c.in-Err-Fault.field-0-is c.in-Err-Fault.ensures.fault in
    written_faulty c.args.text.now c.in-Err-Fault.field-0-0 c.requires.written has
