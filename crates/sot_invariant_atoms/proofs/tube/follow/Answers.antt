use Rattle.std.proofs.Common.{◌+◌, arith}
use Rattle.sot_invariant_atoms.proofs.Followed.{trapped, apart_now, leaves_next, followed_next}
use Rattle.sot_invariant_atoms.proofs.tube.follow.Goals as goal

pub returns-in_default-clause-leaves : goal.returns-in_default-clause-leaves
returns-in_default-clause-leaves c e =
    trapped c.args.grid.now c.args.set.now c.args.walk.now c.loop-tick.walk c.in_default.ensures.rules c.loop-tick._tick c.loop-tick.found
    c.loop-tick.invariant (omega (arith, c.ticks-ticks.ensures, c.loop-tick-test.true)) c.in_default.ensures.step

pub returns-then-says_apart-clause-apart : goal.returns-then-says_apart-clause-apart
returns-then-says_apart-clause-apart c e =
    apart_now c.args.grid.now c.args.set.now c.args.walk.now c.loop-tick.walk c.in-Some.ensures.rules c.loop-tick._tick c.loop-tick.found
    c.loop-tick.invariant (omega (arith, c.ticks-ticks.ensures, c.loop-tick-test.true)) c.in-Some.step.area c.step.new.self c.in-Some.ensures.step
    (c.standing-standing.ensures.apart (c.says_apart.ensures.yes c.if-says_apart.true))

pub returns-then-step-clause-leaves : goal.returns-then-step-clause-leaves
returns-then-step-clause-leaves c =
    leaves_next c.args.grid.now c.args.set.now c.args.walk.now c.loop-tick.walk c.in-Some.ensures.rules c.loop-tick._tick c.loop-tick.found
    c.loop-tick.invariant (omega (arith, c.ticks-ticks.ensures, c.loop-tick-test.true)) c.in-Some.step.area c.step.new.self c.in-Some.ensures.step
    c.standing-standing.result c.worse-found.result c.worse-found.ensures c.standing-standing.ensures.leaves
    (λ e. let y = c.says_apart.ensures.no e in let n = c.if-says_apart.false in cc)

pub loop-tick-preserved : goal.loop-tick-preserved
loop-tick-preserved c =
    followed_next c.args.grid.now c.args.set.now c.args.walk.now c.loop-tick.walk c.in-Some.ensures.rules c.loop-tick._tick c.loop-tick.found
    c.loop-tick.invariant (omega (arith, c.ticks-ticks.ensures, c.loop-tick-test.true)) c.in-Some.step.area c.step.new.self c.in-Some.ensures.step
    c.standing-standing.result c.worse-found.result c.worse-found.ensures c.standing-standing.ensures.leaves
    (λ e. let y = c.says_apart.ensures.no e in let n = c.if-says_apart.false in cc) (c.loop-tick._tick + 1) (omega arith)
