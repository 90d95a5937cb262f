use Rattle.std.proofs.Common.{◌≡◌, [], refl, inr, subst, IfOk, arith}
use Rattle.sot_sections.specs.declared.mission.Need.TheVariants as needs
use Rattle.sot_report.specs.Missions.{HasFault}
use Rattle.sot_report.specs.Loads.{IfFault, mission_of}
use Rattle.sot_report.specs.FaultTexts.{fault_text}
use Rattle.sot_guard_program.specs.Moments.{ears, mouth}
use Rattle.sot_guard_program.specs.Says.{SaysMission}
use Rattle.sot_guard_program.proofs.Passing.{passes_nil}
use Rattle.sot_guard_program.proofs.Judged.{answered, accepted}
use Rattle.sot_guard_program.proofs.Results.{silent, faulty_result, mission_words}
use Rattle.sot_guard_program.proofs.accepting.accept.Goals as goal

pub load-requires : goal.load-requires
load-requires g c = omega (arith, c.requires.short)

pub judge-status-requires-clause-words : goal.judge-status-requires-clause-words
judge-status-requires-clause-words g c κs within = mission_words c.args.front.now _ c.in-Ok.ensures.ok.mission

pub returns-in-Ok : goal.returns-in-Ok
returns-in-Ok g c =
    let e = ears (g.S.Source.left c.args.source.now) (g.S.Source.faults c.args.source.now) c.args.ear.now in
    let f = ears (g.S.Source.left c.judge-status.new.source) (g.S.Source.faults c.judge-status.new.source) c.judge-status.new.ear in
    let x = mouth (g.K.Sink.held c.args.sink.now) (g.K.Sink.faults c.args.sink.now) in
    let y = mouth (g.K.Sink.held c.judge-status.new.sink) (g.K.Sink.faults c.judge-status.new.sink) in
    let ok = c.in-Ok.ensures.ok in
    accepted e f x y c.judge-status.result.0 c.args.time c.args.front.now (mission_of ok.program c.in-Ok.loaded) ok.mission c.judge-status.ensures

pub returns-in-Err-Fault : goal.returns-in-Err-Fault
returns-in-Err-Fault g c =
    let front = c.args.front.now in
    let e = ears (g.S.Source.left c.args.source.now) (g.S.Source.faults c.args.source.now) c.args.ear.now in
    let x = mouth (g.K.Sink.held c.args.sink.now) (g.K.Sink.faults c.args.sink.now) in
    let y = mouth (g.K.Sink.held c.tell.new.sink) (g.K.Sink.faults c.tell.new.sink) in
    let has = subst (λ e. IfFault e (HasFault needs.Check 0 front)) c.in-Err-Fault.field-0-is c.in-Err-Fault.ensures.fault in
    let text = subst (λ f. IfOk c.faulty.result (λ a. a.text.items ≡ fault_text f)) c.in-Err-Fault.fault-is c.faulty.ensures.text in
    answered e e x y c.tell.result.0 (SaysMission c.args.time front) [] c.faulty.result (passes_nil e)
    (faulty_result c.args.time c.faulty.result front e c.in-Err-Fault.fault has c.faulty.ensures.status text) (inr (inr (inr (refl, refl)))) c.tell.ensures

pub returns-in-Err-Memory : goal.returns-in-Err-Memory
returns-in-Err-Memory g c = silent (SaysMission c.args.time c.args.front.now) _ _ (inr (inr (inr (refl, refl))))
