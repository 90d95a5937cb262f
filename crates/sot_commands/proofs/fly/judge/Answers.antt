use Rattle.std.proofs.Common.{ℕ, List, inl, subst, arith}
use Rattle.sot_tube.specs.Admitted.{Admitted}
use Rattle.sot_rta.specs.Refused.{refusal_view}
use Rattle.sot_commands.specs.Guests.{GuestsFlew}
use Rattle.sot_commands.specs.Steps.{JudgesFlight, JudgesFlown, GuestsDid, SaysInAll}
use Rattle.sot_commands.proofs.Forms.{unflown_result}
use Rattle.sot_commands.proofs.InAll.{says_first, says_alone}
use Rattle.sot_commands.proofs.Guests.{all_stand, unflown, unnamed_same}
use Rattle.sot_commands.proofs.NoTraces.{refusal_traces_none}
use Rattle.sot_commands.proofs.fly.judge.Goals as goal

pub returns-in-Ok-clause-judges : goal.returns-in-Ok-clause-judges
returns-in-Ok-clause-judges g c =
    let told = g.C.Controller.asked in
    let telling = c.args.telling in
    let p = c.args.program.now in
    let cert = c.args.cert.now in
    let f = c.args.flight.now in
    let was = c.args.guests.now in
    let now = c.fly_accepted.new.guests in
    let answer = c.in-Ok.ensures.answer in
    let judges = subst
    (λ (x : Admitted). SaysInAll g.O.Out.puts c.args.out.now c.fly_accepted.new.out c.fly_accepted.result
    (λ (status : ℕ) (said : List ℕ). JudgesFlight telling x.program x.cert.jitter f status said × GuestsDid telling status said
    (λ text. GuestsFlew told x.program x.cert.jitter f text was.items now.items) was now)) answer.0 c.fly_accepted.ensures.judges in
    says_first g.O.Out.puts c.args.out.now c.fly_accepted.new.out c.fly_accepted.result (JudgesFlight telling p cert.jitter f) (JudgesFlown telling p cert f)
    (λ (status : ℕ) (said : List ℕ). GuestsDid telling status said (λ text. GuestsFlew told p cert.jitter f text was.items now.items) was now)
    (λ status said judged. inl (answer.1, c.in-Ok.ensures.safe, judged)) judges

pub returns-in-Err-clause-judges : goal.returns-in-Err-clause-judges
returns-in-Err-clause-judges g c =
    let told = g.C.Controller.asked in
    let telling = c.args.telling in
    let p = c.args.program.now in
    let cert = c.args.cert.now in
    let f = c.args.flight.now in
    let out = c.args.out.now in
    let guests = c.args.guests.now in
    let refusal = refusal_view c.in-Err.refusal in
    says_alone g.O.Out.puts out c.refused.result (JudgesFlown telling p cert f)
    (λ (status : ℕ) (said : List ℕ). GuestsDid telling status said (λ text. GuestsFlew told p cert.jitter f text guests.items guests.items) guests guests)
    (g.met.O.Out.nothing out)
    (unflown_result c.refused.result telling p cert f refusal c.in-Err.ensures.answer c.refused.ensures.status c.refused.ensures.text)
    (unflown telling c.refused.result _ guests 1 (omega arith) c.refused.ensures.status (refusal_traces_none c.refused.result p refusal c.refused.ensures.text))

pub returns-in-Err-clause-guests : goal.returns-in-Err-clause-guests
returns-in-Err-clause-guests g c =
    let guests = c.args.guests.now in
    all_stand g.C.Controller.asked _ guests (unnamed_same c.args.flight.now guests.items)
