use Rattle.std.proofs.Common.{ℕ, List, inl, arith}
use Rattle.sot_commands.specs.Guests.{GuestsFlew}
use Rattle.sot_commands.specs.Steps.{JudgesFlown, JudgesWatched, GuestsDid}
use Rattle.sot_commands.proofs.Watching.{means_for}
use Rattle.sot_commands.proofs.Forms.{unwatched_result}
use Rattle.sot_commands.proofs.InAll.{says_first, says_alone}
use Rattle.sot_commands.proofs.Guests.{all_stand, unflown, unnamed_same}
use Rattle.sot_commands.proofs.NoTraces.{formula_traces_none}
use Rattle.sot_commands.proofs.fly.fly_loaded.Goals as goal

pub returns-in-Ok-clause-judges : goal.returns-in-Ok-clause-judges
returns-in-Ok-clause-judges g c =
    let told = g.C.Controller.asked in
    let telling = c.args.telling in
    let p = c.args.program.now in
    let cert = c.args.cert.now in
    let f = c.args.flight.now in
    let was = c.args.guests.now in
    let now = c.judge.new.guests in
    let means = means_for telling p c.in-Ok.monitor c.in-Ok.ensures.ok in
    says_first g.O.Out.puts c.args.out.now c.judge.new.out c.judge.result (JudgesFlown telling p cert f) (JudgesWatched telling p cert f)
    (λ (status : ℕ) (said : List ℕ). GuestsDid telling status said (λ text. GuestsFlew told p cert.jitter f text was.items now.items) was now)
    (λ status said judged. inl (means, judged)) c.judge.ensures.judges

pub returns-in-Err-clause-judges : goal.returns-in-Err-clause-judges
returns-in-Err-clause-judges g c =
    let told = g.C.Controller.asked in
    let telling = c.args.telling in
    let p = c.args.program.now in
    let cert = c.args.cert.now in
    let f = c.args.flight.now in
    let out = c.args.out.now in
    let guests = c.args.guests.now in
    let r = c.faulty_formula.result in
    let why = c.faulty_formula.ensures in
    says_alone g.O.Out.puts out r (JudgesWatched telling p cert f)
    (λ (status : ℕ) (said : List ℕ). GuestsDid telling status said (λ text. GuestsFlew told p cert.jitter f text guests.items guests.items) guests guests)
    (g.met.O.Out.nothing out) (unwatched_result r telling p cert f c.in-Err.fail c.in-Err.ensures.err why.status why.text)
    (unflown telling r _ guests 3 (omega arith) why.status (formula_traces_none r c.in-Err.fail why.text))

pub returns-in-Err-clause-guests : goal.returns-in-Err-clause-guests
returns-in-Err-clause-guests g c =
    let guests = c.args.guests.now in
    all_stand g.C.Controller.asked _ guests (unnamed_same c.args.flight.now guests.items)
