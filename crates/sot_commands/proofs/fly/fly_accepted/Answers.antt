use Rattle.std.proofs.Common.{ℕ, List, sym, subst, length, IfOk, arith}
use Rattle.std.specs.Prelude.{vec_len}
use Rattle.sot_lang.specs.Tables.{Tables}
use Rattle.sot_tube.specs.Admitted.{Admitted}
use Rattle.sot_world.specs.Opens.{StartInside}
use Rattle.sot_flight.specs.Fits.{FitsFlight}
use Rattle.sot_commands.specs.Answers.{IsOutsideOf}
use Rattle.sot_commands.specs.Steps.{JudgesFlight, GuestsDid, SaysInAll}
use Rattle.sot_commands.specs.Guests.{GuestsFlew}
use Rattle.sot_commands.proofs.InAll.{says_alone}
use Rattle.sot_commands.proofs.Flown.{starts_inside, outside_result}
use Rattle.sot_commands.proofs.Guests.{all_stand, unflown, unnamed_same}
use Rattle.sot_commands.proofs.NoTraces.{outside_traces_none}
use Rattle.sot_commands.proofs.fly.fly_accepted.Goals as goal

pub fly_opened-requires-clause-inside : goal.fly_opened-requires-clause-inside
fly_opened-requires-clause-inside g c κs within =
    let opened = c.in-Ok.ensures in
    let inside = starts_inside c.args.accepted.now.program c.args.flight.now c.in-Ok.board.position opened.start opened.safer in
    subst (λ (a : Admitted). StartInside a.program c.args.flight.now.start (length a.program.modules)) (sym opened.accepted) inside

pub fly_opened-requires-clause-fits : goal.fly_opened-requires-clause-fits
fly_opened-requires-clause-fits g c κs within =
    subst (λ (a : Admitted). FitsFlight a.program (vec_len c.args.guests.now) c.args.flight.now) (sym c.in-Ok.ensures.accepted) c.requires.fits

pub returns-in-Ok-clause-judges : goal.returns-in-Ok-clause-judges
returns-in-Ok-clause-judges g c =
    let told = g.C.Controller.asked in
    let telling = c.args.telling in
    let f = c.args.flight.now in
    let was = c.args.guests.now in
    let now = c.fly_opened.new.guests in
    subst
    (λ (a : Admitted). SaysInAll g.O.Out.puts c.args.out.now c.fly_opened.new.out c.fly_opened.result
    (λ (status : ℕ) (said : List ℕ). JudgesFlight telling a.program a.cert.jitter f status said × GuestsDid telling status said
    (λ text. GuestsFlew told a.program a.cert.jitter f text was.items now.items) was now))
    c.in-Ok.ensures.accepted
    c.fly_opened.ensures.judges

pub returns-in-Err-NotSafer-clause-judges : goal.returns-in-Err-NotSafer-clause-judges
returns-in-Err-NotSafer-clause-judges g c =
    let told = g.C.Controller.asked in
    let telling = c.args.telling in
    let acc = c.args.accepted.now in
    let f = c.args.flight.now in
    let out = c.args.out.now in
    let guests = c.args.guests.now in
    let said = subst (λ (t : Tables). IfOk c.outside.result (λ a. IsOutsideOf t f a.text.items)) c.typed.ensures.program c.outside.ensures.text in
    says_alone g.O.Out.puts out c.outside.result (JudgesFlight telling acc.program acc.cert.jitter f)
    (λ (status : ℕ) (said : List ℕ). GuestsDid telling status said
    (λ text. GuestsFlew told acc.program acc.cert.jitter f text guests.items guests.items) guests guests) (g.met.O.Out.nothing out)
    (outside_result c.outside.result telling acc.program acc.cert.jitter f c.outside.ensures.status said)
    (unflown telling c.outside.result _ guests 1 (omega arith) c.outside.ensures.status (outside_traces_none c.outside.result _ f c.outside.ensures.text))

pub returns-in-Err-NotSafer-clause-guests : goal.returns-in-Err-NotSafer-clause-guests
returns-in-Err-NotSafer-clause-guests g c =
    let guests = c.args.guests.now in
    all_stand g.C.Controller.asked _ guests (unnamed_same c.args.flight.now guests.items)

pub returns-clause-guests : goal.returns-clause-guests
returns-clause-guests g c =
    let guests = c.args.guests.now in
    all_stand g.C.Controller.asked _ guests (unnamed_same c.args.flight.now guests.items)
