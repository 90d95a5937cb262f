use Rattle.std.proofs.Common.{◌≡◌, List, map, sym, subst, IfOk}
use Rattle.sot_lang.specs.Tables.{Tables}
use Rattle.sot_world.specs.HistoryEntry.{Logged}
use Rattle.sot_flight.specs.Relayed.{send_of}
use Rattle.sot_trace.specs.Fitting.{FitsHistory}
use Rattle.sot_trace.proofs.Printable.{flown_fits}
use Rattle.sot_bridge.specs.SendLaws.{sends_of}
use Rattle.sot_bridge.proofs.flown.board_sends.Goals as goal

pub sends-requires-clause-fits : goal.sends-requires-clause-fits
sends-requires-clause-fits c =
    let standing = c.reveal_invariant.ensures in
    let fits = flown_fits c.args.board.now.accepted.program standing.kept.rules c.args.board.now.accepted.cert.jitter c.args.board.now.plan
    c.args.board.now.entries c.args.board.now.position standing.flown in
    subst (λ (es : List Logged). FitsHistory c.typed.result.now es) (sym c.history.ensures)
    (subst (λ (p : Tables). FitsHistory p c.args.board.now.entries) (sym c.typed.ensures) fits)

pub returns : goal.returns
returns c =
    let p = c.args.board.now.accepted.program in
    let one = subst (λ (t : Tables). IfOk c.sends.result (λ v. map send_of v.items ≡ sends_of t c.args.topic c.history.result.now.entries))
    c.typed.ensures c.sends.ensures in
    subst (λ (es : List Logged). IfOk c.sends.result (λ v. map send_of v.items ≡ sends_of p c.args.topic es)) c.history.ensures one
