use Rattle.std.proofs.Common.{◌≡◌, ◌++◌, ◌+◌, ◌≤◌, length, refl, subst, IfOk, arith}
use Rattle.sot_sections.specs.declared.mission.Need.TheVariants as needs
use Rattle.sot_report.specs.Missions.{HasFault}
use Rattle.sot_report.specs.Loads.{IfFault}
use Rattle.sot_report.specs.FaultTexts.{fault_text}
use Rattle.sot_bridge.specs.MissionHalves.{halves_seen, halves_of}
use Rattle.sot_bridge.specs.declared.answer.Which.TheVariants.{A}
use Rattle.sot_bridge.specs.Answers.{word_of}
use Rattle.sot_bridge.proofs.Halved.{halves_short, divided, undivided}
use Rattle.sot_bridge.proofs.Sides.{spells_held, held_cert, held_flight}
use Rattle.sot_bridge.proofs.Forms.{undivided_result, faulty_a}
use Rattle.sot_bridge.proofs.reply.reply_of.Goals as goal

pub load-requires : goal.load-requires
load-requires g c =
    let parted = divided c.divide.result c.in-Some.halves (halves_of c.args.bytes.now) c.in-Some.is c.divide.ensures in
    let short : length c.in-Some.halves.a.now + length c.in-Some.halves.b.now ≤ length c.args.bytes.now
    = halves_short c.args.bytes.now (halves_seen c.in-Some.halves) parted in
    omega (arith, short, c.requires.short)

pub side_of-requires : goal.side_of-requires
side_of-requires g c = (c.in-Some.halves.a.now, c.in-Ok.ensures.ok)

pub with_first-answer-requires-clause-a_cert : goal.with_first-answer-requires-clause-a_cert
with_first-answer-requires-clause-a_cert g c κs within =
    let side = c.side_of.ensures in
    held_cert c.in-Ok.a c.side_of.result side.program side.cert side.flight c.in-Ok.ensures.cert_fits

pub with_first-answer-requires-clause-a_fits : goal.with_first-answer-requires-clause-a_fits
with_first-answer-requires-clause-a_fits g c κs within =
    let side = c.side_of.ensures in
    held_flight c.in-Ok.a c.side_of.result side.program side.cert side.flight c.in-Ok.ensures.flight_fits

pub with_first-answer-requires-clause-short : goal.with_first-answer-requires-clause-short
with_first-answer-requires-clause-short g c κs within =
    let parted = divided c.divide.result c.in-Some.halves (halves_of c.args.bytes.now) c.in-Some.is c.divide.ensures in
    let short : length c.in-Some.halves.a.now + length c.in-Some.halves.b.now ≤ length c.args.bytes.now
    = halves_short c.args.bytes.now (halves_seen c.in-Some.halves) parted in
    omega (arith, short, c.requires.short)

pub returns-in_default : goal.returns-in_default
returns-in_default g c =
    let none = undivided c.divide.result (halves_of c.args.bytes.now) c.in_default.not-Some c.divide.ensures in
    undivided_result c.args.ask.from.now c.args.ask.to.now c.args.ask.delay c.args.bytes.now c.fixed.result none c.fixed.ensures.status c.fixed.ensures.text

pub returns-in-Ok : goal.returns-in-Ok
returns-in-Ok g c =
    let parted = divided c.divide.result c.in-Some.halves (halves_of c.args.bytes.now) c.in-Some.is c.divide.ensures in
    let side = c.side_of.ensures in
    let here = spells_held c.in-Ok.a c.side_of.result side.program side.cert side.flight c.in-Some.halves.a.now c.in-Ok.ensures.ok in
    c.with_first-answer.ensures (halves_seen c.in-Some.halves) c.args.bytes.now parted refl here

pub returns-in-Err-Fault : goal.returns-in-Err-Fault
returns-in-Err-Fault g c =
    let parted = divided c.divide.result c.in-Some.halves (halves_of c.args.bytes.now) c.in-Some.is c.divide.ensures in
    let has = subst (λ e. IfFault e (HasFault needs.Fly 0 c.in-Some.halves.a.now)) c.in-Err-Fault.field-0-is c.in-Err-Fault.ensures.fault in
    let text = subst (λ f. IfOk c.faulty.result (λ a. a.text.items ≡ word_of A ++ fault_text f)) c.in-Err-Fault.fault-is c.faulty.ensures.text in
    faulty_a c.args.ask.from.now c.args.ask.to.now c.args.ask.delay c.args.bytes.now c.faulty.result (halves_seen c.in-Some.halves) c.in-Err-Fault.fault
    parted has c.faulty.ensures.status text
