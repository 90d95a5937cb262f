use Rattle.std.proofs.Common.{ℕ, List, ◌∙◌, sym}
use Rattle.sot_commands.specs.Guests.{GuestsFlew}
use Rattle.sot_commands.specs.Steps.{Tells, JudgesFlight, GuestsDid}
use Rattle.sot_commands.proofs.InAll.{says_also}
use Rattle.sot_commands.proofs.Flown.{flown_here, in_order_here, tells_here, told_of}
use Rattle.sot_commands.proofs.Guests.{flown_stand, flown_did, lacking}
use Rattle.sot_commands.proofs.fly.fly_opened.Goals as goal

pub tell-requires-clause-accepted : goal.tell-requires-clause-accepted
tell-requires-clause-accepted g c = c.in-Ok.ensures.accepted ∙ c.requires.accepted

pub returns-in-Ok-clause-judges : goal.returns-in-Ok-clause-judges
returns-in-Ok-clause-judges g c =
    let told = g.C.Controller.asked in
    let telling = c.args.telling in
    let ended = c.in-Ok.ensures in
    let acc = c.args.board.accepted in
    let f = c.args.flight.now in
    let b = c.in-Ok.flown.board in
    let was = c.args.guests.now in
    let now = c.fly.new.guests in
    let plan = ended.plan ∙ sym c.requires.flight in
    let flown = flown_here acc f b ended.accepted plan ended.flown in
    let order = in_order_here acc f b ended.accepted plan ended.order in
    says_also g.O.Out.puts c.args.out.now c.tell.new.out c.tell.result (Tells telling c.args.accepted.now.program b.plan b.entries)
    (λ (status : ℕ) (said : List ℕ). JudgesFlight telling acc.program acc.cert.jitter f status said × GuestsDid telling status said
    (λ text. GuestsFlew told acc.program acc.cert.jitter f text was.items now.items) was now)
    (λ status said tells.
    (let here = tells_here telling acc c.args.accepted.now f b status said c.requires.accepted plan tells in (
      told_of telling acc.program acc.cert.jitter f b.entries status said c.requires.inside order here,
      flown_did told acc f b was now ended.accepted plan ended.asked ended.unnamed flown telling status said here,
    ))) c.tell.ensures

pub returns-in-Ok-clause-guests : goal.returns-in-Ok-clause-guests
returns-in-Ok-clause-guests g c =
    let ended = c.in-Ok.ensures in
    let plan = ended.plan ∙ sym c.requires.flight in
    flown_stand g.C.Controller.asked c.args.board.accepted c.args.flight.now c.in-Ok.flown.board c.args.guests.now c.fly.new.guests ended.accepted plan
    ended.asked ended.unnamed ended.length

pub returns-in-Err-clause-guests : goal.returns-in-Err-clause-guests
returns-in-Err-clause-guests g c =
    lacking g.C.Controller.asked c.args.flight.now c.args.guests.now c.fly.new.guests c.in-Err.ensures.length c.in-Err.ensures.memory
