use Rattle.std.proofs.Common.{◌≡◌, ◌∙◌, ◌<◌, ℕ, ℤ, List, ap, sym, subst, arith}
use Rattle.std.specs.Prelude.{IfOk}
use Rattle.std.proofs.lemmas.Bool.{both_ways}
use Rattle.sot_lang.specs.Tables.{Tables}
use Rattle.sot_tube.specs.Admitted.{Admitted}
use Rattle.sot_world.specs.declared.outcome.Why.TheVariants as whys
use Rattle.sot_world.specs.Configurations.{Configuration}
use Rattle.sot_world.specs.Steps.{MayTick}
use Rattle.sot_flight.specs.Plans.{Plan}
use Rattle.sot_board.proofs.InputsDue.{no_input_due, input_not_due}
use Rattle.sot_trace_lines.specs.Spelled.{TickLine, IsSpelled}
use Rattle.sot_replay.specs.declared.fail.LineKind.TheVariants.{WrongTime, NodesLeft, InputsLeft, TooFar}
use Rattle.sot_replay.specs.declared.judged.Judged.TheVariants.{Fails}
use Rattle.sot_replay.specs.Tests.{IsFirstFailing}
use Rattle.sot_replay.specs.Judges.{IsCompared, FailsTick, IsReadOn}
use Rattle.sot_replay.proofs.FirstFailing.{wrong_time, refused, inputs_left, too_far}
use Rattle.sot_replay.proofs.ReadOn.{read_fails, tick_fails, tick_reads}
use Rattle.sot_replay.proofs.Taken.{tick_taken}
use Rattle.sot_replay.proofs.Ticks.{tick_differs}
use Rattle.sot_replay.proofs.tick.judge_tick.Goals as goal

pub returns-then-not-is_now : goal.returns-then-not-is_now
returns-then-not-is_now c =
    let b = c.args.board.now in
    let line = c.args.line.now in
    read_fails b b line c.read_on.result WrongTime (subst (λ (p : Tables). IfOk c.read_on.result (λ j. IsReadOn p line (Fails WrongTime) j)) c.typed-p.ensures
    c.read_on.ensures)
    (λ s spells.
    let (t, w, x, is, reads) = c.requires.begins s spells in
    wrong_time b.accepted.program b.accepted.cert.jitter b.plan b.entries b.position line (TickLine t w x) (subst (IsSpelled b.accepted.program line) is spells)
    (λ same. both_ways c.is_now.result c.if-not-is_now.true ((c.is_now.ensures t reads).1 (same ∙ sym c.time.ensures))))

pub returns-then-not-may_tick : goal.returns-then-not-may_tick
returns-then-not-may_tick c =
    let b = c.args.board.now in
    let line = c.args.line.now in
    read_fails b b line c.read_on-then-not-may_tick.result NodesLeft
    (subst (λ (p : Tables). IfOk c.read_on-then-not-may_tick.result (λ j. IsReadOn p line (Fails NodesLeft) j)) c.typed-p.ensures
    c.read_on-then-not-may_tick.ensures)
    (λ s spells.
    let (t, w, x, is, reads) = c.requires.begins s spells in
    let time : t ≡ b.position.at.time = (c.is_now.ensures t reads).0 c.if-not-is_now.false ∙ c.time.ensures in
    refused b.accepted.program b.accepted.cert.jitter b.plan b.entries b.position line (TickLine t w x) (subst (IsSpelled b.accepted.program line) is spells)
    time whys.NodesLeft
    (λ may.
    let there = subst (λ (C : Configuration). MayTick b.accepted.program b.accepted.cert.jitter C) (sym c.world.ensures.at) may in
    let here = subst (λ (a : Admitted). MayTick a.program a.cert.jitter c.world.result.now.at) (sym c.world.ensures.accepted) there in
    both_ways c.may_tick.result c.if-not-may_tick.true (c.may_tick.ensures.1 here)))

pub tick-requires-clause-may : goal.tick-requires-clause-may
tick-requires-clause-may c =
    let b = c.args.board.now in
    let one = subst (λ (a : Admitted). MayTick a.program a.cert.jitter c.world.result.now.at) c.world.ensures.accepted
    (c.may_tick.ensures.0 c.if-not-may_tick.false) in (
      subst (λ (C : Configuration). MayTick b.accepted.program b.accepted.cert.jitter C) c.world.ensures.at one,
      no_input_due b c.reveal_invariant.ensures (λ due. both_ways c.due_input.result c.if-due_input.false (c.due_input.ensures.1 due)),
    )

pub returns-then-due_input : goal.returns-then-due_input
returns-then-due_input c =
    let b = c.args.board.now in
    let p = b.accepted.program in
    let line = c.args.line.now in
    let now = (λ (t : ℕ) (w x : List ℤ) (spelled : IsSpelled p line (TickLine t w x)).
    (c.is_now.ensures t (tick_reads p line c.args.time t w x c.requires.begins spelled)).0 c.if-not-is_now.false ∙ c.time.ensures) in
    let one = subst (λ (a : Admitted). MayTick a.program a.cert.jitter c.world.result.now.at) c.world.ensures.accepted
    (c.may_tick.ensures.0 c.if-not-may_tick.false) in
    let may = subst (λ (C : Configuration). MayTick p b.accepted.cert.jitter C) c.world.ensures.at one in
    let fails = subst (λ (q : Tables). FailsTick q line InputsLeft c.in_ok-kind.kind) c.typed-p.ensures c.in_ok-kind.ensures in
    tick_fails b b line InputsLeft c.in_ok-kind.kind fails
    (λ t w x spelled out. refused p b.accepted.cert.jitter b.plan b.entries b.position line (TickLine t w x) spelled (now t w x spelled) whys.OutsideType
    (may, out))
    (λ t w x spelled inside. inputs_left p b.accepted.cert.jitter b.plan b.entries b.position line (TickLine t w x) spelled (now t w x spelled)
    (tick_taken p b.accepted.cert.jitter b.position.at w (may, inside)) (λ none. input_not_due b none (c.due_input.ensures.0 c.if-due_input.true)))

pub returns-then-time-horizon : goal.returns-then-time-horizon
returns-then-time-horizon c =
    let b = c.args.board.now in
    let p = b.accepted.program in
    let line = c.args.line.now in
    let now = (λ (t : ℕ) (w x : List ℤ) (spelled : IsSpelled p line (TickLine t w x)).
    (c.is_now.ensures t (tick_reads p line c.args.time t w x c.requires.begins spelled)).0 c.if-not-is_now.false ∙ c.time.ensures) in
    let one = subst (λ (a : Admitted). MayTick a.program a.cert.jitter c.world.result.now.at) c.world.ensures.accepted
    (c.may_tick.ensures.0 c.if-not-may_tick.false) in
    let may = subst (λ (C : Configuration). MayTick p b.accepted.cert.jitter C) c.world.ensures.at one in
    let none = no_input_due b c.reveal_invariant.ensures (λ due. both_ways c.due_input.result c.if-due_input.false (c.due_input.ensures.1 due)) in
    let horizon : c.horizon.result ≡ b.plan.horizon = c.horizon.ensures ∙ ap (λ (f : Plan). f.horizon) c.flight.ensures in
    let fails = subst (λ (q : Tables). FailsTick q line TooFar c.in_ok-kind-2.kind) c.typed-p.ensures c.in_ok-kind-2.ensures in
    tick_fails b b line TooFar c.in_ok-kind-2.kind fails
    (λ t w x spelled out. refused p b.accepted.cert.jitter b.plan b.entries b.position line (TickLine t w x) spelled (now t w x spelled) whys.OutsideType
    (may, out))
    (λ t w x spelled inside. too_far p b.accepted.cert.jitter b.plan b.entries b.position line (TickLine t w x) spelled (now t w x spelled)
    (tick_taken p b.accepted.cert.jitter b.position.at w (may, inside)) (λ left. left none)
    (omega (arith, c.if-time-horizon.true, horizon, c.time-2.ensures)))

pub returns-in_ok-kind-in-Fails : goal.returns-in_ok-kind-in-Fails
returns-in_ok-kind-in-Fails c =
    let b = c.args.board.now in
    let p = b.accepted.program in
    let line = c.args.line.now in
    let now = (λ (t : ℕ) (w x : List ℤ) (spelled : IsSpelled p line (TickLine t w x)).
    (c.is_now.ensures t (tick_reads p line c.args.time t w x c.requires.begins spelled)).0 c.if-not-is_now.false ∙ c.time.ensures) in
    let one = subst (λ (a : Admitted). MayTick a.program a.cert.jitter c.world.result.now.at) c.world.ensures.accepted
    (c.may_tick.ensures.0 c.if-not-may_tick.false) in
    let may = subst (λ (C : Configuration). MayTick p b.accepted.cert.jitter C) c.world.ensures.at one in
    let none = no_input_due b c.reveal_invariant.ensures (λ due. both_ways c.due_input.result c.if-due_input.false (c.due_input.ensures.1 due)) in
    let horizon : c.horizon.result ≡ b.plan.horizon = c.horizon.ensures ∙ ap (λ (f : Plan). f.horizon) c.flight.ensures in
    let new = c.tick.new.self in
    let (entry, logs) = c.tick.ensures in
    let (is, not) = subst (λ (a : Admitted). IsCompared a.program entry line (Fails c.in-Fails.differs)) logs.accepted
    (c.in-Fails.ensures b.entries entry logs.entries) in
    let near : b.position.at.time < b.plan.horizon = omega (arith, c.if-time-horizon.false, horizon, c.time-2.ensures) in
    let fails = subst (λ (q : Tables). FailsTick q line c.in-Fails.differs c.in_ok-kind-in-Fails.kind) c.typed-p.ensures c.in_ok-kind-in-Fails.ensures in
    tick_fails b new line c.in-Fails.differs c.in_ok-kind-in-Fails.kind fails
    (λ t w x spelled out. refused p b.accepted.cert.jitter b.plan b.entries b.position line (TickLine t w x) spelled (now t w x spelled) whys.OutsideType
    (may, out))
    (λ t w x spelled inside.
    subst (IsFirstFailing p b.accepted.cert.jitter b.plan b.entries b.position line) (sym is)
    (tick_differs b c.reveal_invariant.ensures c.requires.words line t w x spelled (now t w x spelled) may inside none near new entry logs not))
