use Rattle.std.proofs.Common.{subst, Some}
use Rattle.sot_trace_lines.specs.declared.line.Line.{Line}
use Rattle.sot_trace_lines.specs.Spelled.{Fits}
use Rattle.sot_trace_lines.specs.Shown.{AnswersLine}
use Rattle.sot_replay.proofs.ReadOn.{spelled_begins, spelled_ticks}
use Rattle.sot_replay.proofs.judge.judge_whole.Goals as goal

pub judge_firing-requires-clause-begins : goal.judge_firing-requires-clause-begins
judge_firing-requires-clause-begins c =
    let b = c.args.board.now in
    let p = b.accepted.program in
    let line = c.args.line.now in
    let (s, spelled, (t, enabled, slots, is, reads, drafted)) =
    subst (λ (r : Line). AnswersLine p line c.args.desk.now.numbers.items (Some r)) c.in-Fire.is c.requires.read in
    let fits = subst (Fits p) is spelled.0 in (
      fits.0,
      λ other spells. spelled_begins p line c.in-Fire.time c.in-Fire.node s c.reveal_invariant.ensures.kept.rules c.requires.words spelled
          (t, enabled, slots, is, reads) other spells,
    )

pub judge_tick-requires-clause-begins : goal.judge_tick-requires-clause-begins
judge_tick-requires-clause-begins c =
    let b = c.args.board.now in
    let p = b.accepted.program in
    let line = c.args.line.now in
    let (s, spelled, (t, noise, states, is, reads, holds)) =
    subst (λ (r : Line). AnswersLine p line c.args.desk.now.numbers.items (Some r)) c.in-Tick.is c.requires.read in
    λ other spells. spelled_ticks p line c.in-Tick.time s c.reveal_invariant.ensures.kept.rules c.requires.words
    spelled (t, noise, states, is, reads) other spells
