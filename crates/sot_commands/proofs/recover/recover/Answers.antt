use Rattle.std.proofs.Common.{◌≡◌, arith, subst, IfOk}
use Rattle.sot_sections.specs.declared.mission.Need.TheVariants as needs
use Rattle.sot_report.specs.Missions.{HasFault}
use Rattle.sot_report.specs.Loads.{IfFault}
use Rattle.sot_report.specs.FaultTexts.{fault_text}
use Rattle.sot_commands.proofs.Recovered.{recovered_result, unspelled_result}
use Rattle.sot_commands.proofs.recover.recover.Goals as goal

pub load-requires : goal.load-requires
load-requires g c = omega (arith, c.requires)

pub returns-in-Ok : goal.returns-in-Ok
returns-in-Ok g c = λ guests. recovered_result guests c.judge-answer.result c.args.bytes.now _ c.in-Ok.ensures.ok.mission c.judge-answer.ensures

pub returns-in-Err-Fault : goal.returns-in-Err-Fault
returns-in-Err-Fault g c =
    let has = subst (λ e. IfFault e (HasFault needs.Check 0 c.args.bytes.now)) c.in-Err-Fault.field-0-is c.in-Err-Fault.ensures.fault in
    let text = subst (λ f. IfOk c.faulty.result (λ a. a.text.items ≡ fault_text f)) c.in-Err-Fault.fault-is c.faulty.ensures.text in
    λ guests. unspelled_result guests c.faulty.result c.args.bytes.now c.in-Err-Fault.fault has c.faulty.ensures.status text
