use Rattle.std.proofs.Common.{◌≡◌, ℤ, List, [], sym, ap, ◌∙◌, subst, IfOk}
use Rattle.std.specs.Prelude.{◌≤◌, sum_by, MatchOption}
use Rattle.sot_tube.specs.Admitted.{Admitted}
use Rattle.sot_world.specs.HistoryEntry.{Logged}
use Rattle.sot_world.specs.Opens.{AreStarts}
use Rattle.sot_trace.specs.Fitting.{FitsHistory}
use Rattle.sot_trace.specs.Lines.{ticks_in}
use Rattle.sot_monitor.specs.Holding.{AlwaysHolds, FirstFails}
use Rattle.sot_monitor.specs.Moments.{moments_told}
use Rattle.sot_commands.proofs.Watching.{board_starts, board_fits, board_ticks}
use Rattle.sot_commands.proofs.flight_text.first_false.Goals as goal

pub watch-requires-clause-starts : goal.watch-requires-clause-starts
watch-requires-clause-starts c =
    let starts = board_starts c.args.board.now c.reveal_invariant.ensures in
    subst (λ (s : List (List ℤ)). AreStarts c.args.accepted.now.program s) (sym (c.start.ensures ∙ ap (λ f. f.start) c.flight.ensures))
    (subst (λ (a : Admitted). AreStarts a.program c.args.board.now.plan.start) c.requires.accepted starts)

pub watch-requires-clause-fits : goal.watch-requires-clause-fits
watch-requires-clause-fits c =
    let fits = board_fits c.args.board.now c.reveal_invariant.ensures in
    subst (λ (es : List Logged). FitsHistory c.args.accepted.now.program es) (sym c.history.ensures)
    (subst (λ (a : Admitted). FitsHistory a.program c.args.board.now.entries) c.requires.accepted fits)

pub watch-requires-clause-few : goal.watch-requires-clause-few
watch-requires-clause-few c =
    subst (λ (es : List Logged). sum_by ticks_in es ≤ 100000) (sym c.history.ensures) (board_ticks c.args.board.now c.reveal_invariant.ensures)

pub returns : goal.returns
returns c = λ x stands.
    let p = c.args.accepted.now.program in
    subst (λ (es : List Logged). IfOk c.watch.result
    (λ t. MatchOption t (AlwaysHolds (moments_told p c.args.board.now.plan.start es) x) (FirstFails (moments_told p c.args.board.now.plan.start es) x)))
    c.history.ensures
    (subst (λ (s : List (List ℤ)). IfOk c.watch.result
    (λ t. MatchOption t (AlwaysHolds (moments_told p s c.history.result.now.entries) x) (FirstFails (moments_told p s c.history.result.now.entries) x)))
    (c.start.ensures ∙ ap (λ f. f.start) c.flight.ensures) (c.watch.ensures.verdict x stands))
