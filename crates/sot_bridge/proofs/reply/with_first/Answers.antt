use Rattle.std.proofs.Common.{◌≡◌, ℕ, List, ◌++◌, sym, subst, IfOk, arith}
use Rattle.sot_sections.specs.declared.mission.Need.TheVariants as needs
use Rattle.sot_report.specs.Missions.{HasFault}
use Rattle.sot_report.specs.Loads.{IfFault}
use Rattle.sot_report.specs.FaultTexts.{fault_text}
use Rattle.sot_bridge.specs.declared.answer.Which.TheVariants.{B}
use Rattle.sot_bridge.specs.Answers.{SpellsSide, word_of}
use Rattle.sot_bridge.specs.Sides.{side_of}
use Rattle.sot_bridge.proofs.Sides.{spells_held, held_cert, held_flight}
use Rattle.sot_bridge.proofs.Forms.{replied_result, faulty_b}
use Rattle.sot_bridge.proofs.reply.with_first.Goals as goal

pub load-requires : goal.load-requires
load-requires g c = omega (arith, c.requires.short)

pub side_of-requires : goal.side_of-requires
side_of-requires g c = (c.args.bytes.now, c.in-Ok.ensures.ok)

pub bridged-answer-requires-clause-b_cert : goal.bridged-answer-requires-clause-b_cert
bridged-answer-requires-clause-b_cert g c κs within =
    let side = c.side_of.ensures in
    held_cert c.in-Ok.b c.side_of.result side.program side.cert side.flight c.in-Ok.ensures.cert_fits

pub bridged-answer-requires-clause-b_fits : goal.bridged-answer-requires-clause-b_fits
bridged-answer-requires-clause-b_fits g c κs within =
    let side = c.side_of.ensures in
    held_flight c.in-Ok.b c.side_of.result side.program side.cert side.flight c.in-Ok.ensures.flight_fits

pub returns-in-Ok : goal.returns-in-Ok
returns-in-Ok g c = λ halves whole divided second first.
    let side = c.side_of.ensures in
    let here = spells_held c.in-Ok.b c.side_of.result side.program side.cert side.flight c.args.bytes.now c.in-Ok.ensures.ok in
    replied_result (side_of c.args.a.now) (side_of c.side_of.result) c.args.ask.from.now c.args.ask.to.now c.args.ask.delay c.bridged-answer.result whole halves
    divided first (subst (λ (b : List ℕ). SpellsSide b (side_of c.side_of.result)) (sym second) here) c.bridged-answer.ensures

pub returns-in-Err-Fault : goal.returns-in-Err-Fault
returns-in-Err-Fault g c = λ halves whole divided second first.
    let has = subst (λ e. IfFault e (HasFault needs.Fly 0 c.args.bytes.now)) c.in-Err-Fault.field-0-is c.in-Err-Fault.ensures.fault in
    let text = subst (λ f. IfOk c.faulty.result (λ a. a.text.items ≡ word_of B ++ fault_text f)) c.in-Err-Fault.fault-is c.faulty.ensures.text in
    faulty_b c.args.ask.from.now c.args.ask.to.now c.args.ask.delay whole c.faulty.result halves (side_of c.args.a.now) c.in-Err-Fault.fault divided first
    (subst (λ (b : List ℕ). HasFault needs.Fly 0 b c.in-Err-Fault.fault) (sym second) has) c.faulty.ensures.status text
