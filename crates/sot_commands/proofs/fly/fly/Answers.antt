use Rattle.std.proofs.Common.{◌≡◌, ℕ, List, subst, arith, IfOk}
use Rattle.std.specs.Prelude.{vec_len}
use Rattle.sot_report.specs.Missions.{HasFault}
use Rattle.sot_report.specs.Loads.{IfFault}
use Rattle.sot_report.specs.FaultTexts.{fault_text}
use Rattle.sot_sections.specs.declared.mission.Need.TheVariants as needs
use Rattle.sot_commands.specs.Orders.{FliesBytes}
use Rattle.sot_commands.specs.Guests.{UnnamedStay, Flew}
use Rattle.sot_commands.specs.Steps.{GuestsStand, GuestsDid, SaysInAll}
use Rattle.sot_commands.proofs.Forms.{unread_result}
use Rattle.sot_commands.proofs.InAll.{says_also, says_alone}
use Rattle.sot_commands.proofs.Guests.{all_stand, unflown, unnamed_stay}
use Rattle.sot_commands.proofs.GuestLaws.{mission_stand}
use Rattle.sot_commands.proofs.Ordered.{mission_said}
use Rattle.sot_commands.proofs.NoTraces.{fault_traces_none}
use Rattle.sot_commands.proofs.fly.fly.Goals as goal

pub returns-in-Some-clause-flies : goal.returns-in-Some-clause-flies
returns-in-Some-clause-flies g c =
    let told = g.C.Controller.asked in
    let telling = c.args.telling in
    let bytes = c.args.bytes.now in
    let out = c.args.out.now in
    let out' = c.fly_loaded-answer.new.out in
    let was = c.args.guests.now in
    let now = c.fly_loaded-answer.new.guests in
    let r = c.fly_loaded-answer.result in
    subst
    (λ (n : ℕ). SaysInAll g.O.Out.puts out out' r (λ (status : ℕ) (said : List ℕ). FliesBytes n telling bytes status said
    × GuestsDid telling status said (λ text. Flew told n bytes text was.items now.items) was now))
    c.len.ensures
    (says_also g.O.Out.puts out out' r _ _
    (mission_said told c.len.result bytes _ c.in-Some.flight was now c.in-Ok.ensures.ok.mission c.in-Some.is telling) c.fly_loaded-answer.ensures.judges)

pub returns-in-Some-clause-guests : goal.returns-in-Some-clause-guests
returns-in-Some-clause-guests g c =
    let told = g.C.Controller.asked in
    let bytes = c.args.bytes.now in
    let was = c.args.guests.now in
    let now = c.fly_loaded-answer.new.guests in
    subst (λ (n : ℕ). GuestsStand told (UnnamedStay n bytes was.items now.items) was now) c.len.ensures
    (mission_stand told c.len.result bytes _ c.in-Some.flight was now c.in-Ok.ensures.ok.mission c.in-Some.is c.fly_loaded-answer.ensures.guests)

pub returns-in-Err-Fault-clause-flies : goal.returns-in-Err-Fault-clause-flies
returns-in-Err-Fault-clause-flies g c =
    let told = g.C.Controller.asked in
    let telling = c.args.telling in
    let bytes = c.args.bytes.now in
    let out = c.args.out.now in
    let guests = c.args.guests.now in
    let n = vec_len guests in
    let r = c.faulty.result in
    let fault = c.in-Err-Fault.fault in
    let of_len = subst (λ e. IfFault e (HasFault needs.Fly c.len.result bytes)) c.in-Err-Fault.field-0-is c.in-Err-Fault.ensures.fault in
    let has = subst (λ (k : ℕ). HasFault needs.Fly k bytes fault) c.len.ensures of_len in
    let text = subst (λ f. IfOk r (λ a. a.text.items ≡ fault_text f)) c.in-Err-Fault.fault-is c.faulty.ensures.text in
    says_alone g.O.Out.puts out r (FliesBytes n telling bytes)
    (λ (status : ℕ) (said : List ℕ). GuestsDid telling status said (λ text. Flew told n bytes text guests.items guests.items) guests guests)
    (g.met.O.Out.nothing out) (unread_result n r telling bytes fault has c.faulty.ensures.status text)
    (unflown telling r _ guests 3 (omega arith) c.faulty.ensures.status (fault_traces_none r fault text))

pub returns-in-Err-Fault-clause-guests : goal.returns-in-Err-Fault-clause-guests
returns-in-Err-Fault-clause-guests g c =
    let guests = c.args.guests.now in
    all_stand g.C.Controller.asked _ guests (unnamed_stay _ c.args.bytes.now guests.items)
