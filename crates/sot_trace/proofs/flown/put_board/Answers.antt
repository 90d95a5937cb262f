use Rattle.std.proofs.Common.{ℤ, List, sym, ap, ◌∙◌, subst}
use Rattle.sot_lang.specs.Tables.{Tables}
use Rattle.sot_world.specs.HistoryEntry.{Logged}
use Rattle.sot_trace.specs.Fitting.{FitsHistory}
use Rattle.sot_trace.specs.Traces.{trace_text}
use Rattle.sot_trace.proofs.Printable.{flown_fits}
use Rattle.sot_trace.proofs.Putting.{put_so}
use Rattle.sot_trace.proofs.flown.put_board.Goals as goal

pub put_trace-requires-clause-fits : goal.put_trace-requires-clause-fits
put_trace-requires-clause-fits g c =
    let standing = c.reveal_invariant.ensures in
    let fits = flown_fits c.args.board.now.accepted.program standing.kept.rules c.args.board.now.accepted.cert.jitter c.args.board.now.plan
    c.args.board.now.entries c.args.board.now.position standing.flown in
    subst (λ (es : List Logged). FitsHistory c.typed.result.now es) (sym c.history.ensures)
    (subst (λ (p : Tables). FitsHistory p c.args.board.now.entries) (sym c.typed.ensures) fits)

pub returns : goal.returns
returns g c =
    put_so g.O.Out.puts _ _ _ _ c.put_trace.ensures
    (ap (λ (p : Tables). trace_text p c.start.result.now c.history.result.now.entries) c.typed.ensures
    ∙ ap (λ (s : List (List ℤ)). trace_text c.args.board.now.accepted.program s c.history.result.now.entries)
    (c.start.ensures ∙ ap (λ f. f.start) c.flight.ensures)
    ∙ ap (λ (es : List Logged). trace_text c.args.board.now.accepted.program c.args.board.now.plan.start es) c.history.ensures)
