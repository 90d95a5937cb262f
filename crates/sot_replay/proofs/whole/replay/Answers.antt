use Rattle.std.proofs.Common.{List, length, ap, sym, ◌∙◌, subst}
use Rattle.sot_tube.specs.Admitted.{Admitted}
use Rattle.sot_world.specs.HistoryEntry.{Logged}
use Rattle.sot_flight.specs.Plans.{Plan}
use Rattle.sot_replay.specs.GoesOn.{IsTraceOf}
use Rattle.sot_replay.proofs.whole.replay.Goals as goal

pub returns-clause-legal : goal.returns-clause-legal
returns-clause-legal c =
    let b = c.in-Ok.board in
    let entries = c.replay_on.new.board.entries in
    let one = subst (λ (a : Admitted). IsTraceOf a.program a.cert.jitter b.plan c.args.lines.to_come entries) c.in-Ok.ensures.accepted
    c.in_ok-replay_on.ensures.legal in
    let two = subst (λ (f : Plan). IsTraceOf c.args.acc.now.program c.args.acc.now.cert.jitter f c.args.lines.to_come entries) c.in-Ok.ensures.plan one in
    (entries, two, sym (c.len.ensures ∙ ap (λ (es : List Logged). length es) c.history.ensures))
