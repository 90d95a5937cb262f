use Rattle.std.proofs.Common.{arith}
use Rattle.sot_guard_program.specs.Moments.{ears}
use Rattle.sot_guard_program.proofs.SoFar.{still_open, which_stop, firsts_none, firsts_more, firsts_halt, firsts_all}
use Rattle.sot_guard_program.proofs.starts.hear_starts.Goals as goal

pub loop-i-init : goal.loop-i-init
loop-i-init g c =
    firsts_none c.args.opening.now (ears (g.S.Source.left c.args.source.now) (g.S.Source.faults c.args.source.now) c.args.ear.now) c.requires.settled

pub loop-i-preserved : goal.loop-i-preserved
loop-i-preserved g c =
    let left = g.S.Source.left in
    let failed = g.S.Source.faults in
    let new = c.hear_start.new in
    let open_ = still_open c.loop-i.ear.ended c.hear_start.result c.in-Ok.field-0 c.in-Ok.is c.hear_start.ensures.ended in
    firsts_more c.args.opening.now c.loop-i.opening c.loop-i.i
    (ears (left c.args.source.now) (failed c.args.source.now) c.args.ear.now)
    (ears (left c.loop-i.source) (failed c.loop-i.source) c.loop-i.ear) c.loop-i.invariant new.opening
    (ears (left new.source) (failed new.source) new.ear) open_ c.in-Ok.ensures.first

pub returns-in-Err : goal.returns-in-Err
returns-in-Err g c =
    let left = g.S.Source.left in
    let failed = g.S.Source.faults in
    let new = c.hear_start.new in
    firsts_halt c.args.opening.now c.loop-i.opening c.loop-i.i
    (ears (left c.args.source.now) (failed c.args.source.now) c.args.ear.now)
    (ears (left c.loop-i.source) (failed c.loop-i.source) c.loop-i.ear) c.loop-i.invariant
    (ears (left new.source) (failed new.source) new.ear) c.in-Err.stop
    (λ ended. which_stop c.hear_start.result c.in-Err.stop c.in-Err.is (c.hear_start.ensures.ended ended)) c.in-Err.ensures.first

pub returns : goal.returns
returns g c =
    let left = g.S.Source.left in
    let failed = g.S.Source.faults in
    firsts_all c.args.opening.now c.loop-i.opening c.loop-i.i
    (ears (left c.args.source.now) (failed c.args.source.now) c.args.ear.now)
    (ears (left c.loop-i.source) (failed c.loop-i.source) c.loop-i.ear) c.loop-i.invariant c.requires.none
    (omega (arith, c.requires.plants, c.loop-i-test.false, c.loop-i.auto.i-end))
