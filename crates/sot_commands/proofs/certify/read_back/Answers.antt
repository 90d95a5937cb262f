use Rattle.std.proofs.Common.{subst}
use Rattle.sot_sections.specs.declared.mission.Need.TheVariants as needs
use Rattle.sot_rta.specs.Refused.{refusal_view}
use Rattle.sot_report.specs.Missions.{HasFault}
use Rattle.sot_report.specs.Loads.{IfFault}
use Rattle.sot_commands.proofs.Certified.{written_faulty, written_refused}
use Rattle.sot_commands.proofs.certify.read_back.Goals as goal

pub unreachable-requires : goal.unreachable-requires
unreachable-requires g c =
    written_refused c.args.text.now _ (refusal_view c.in-Err.field-0) c.requires.written c.in-Ok.ensures.ok.mission c.in-Err.ensures.answer

pub unreachable-requires-in-Err-Fault : goal.unreachable-requires-in-Err-Fault
unreachable-requires-in-Err-Fault g c =
    let has = subst (λ e. IfFault e (HasFault needs.Check 0 c.args.text.now)) c.in-Err-Fault.field-0-is c.in-Err-Fault.ensures.fault in
    written_faulty c.args.text.now c.in-Err-Fault.field-0-0 c.requires.written has
