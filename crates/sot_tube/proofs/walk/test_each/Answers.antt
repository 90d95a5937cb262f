use Rattle.std.proofs.Common.{◌≡◌, suc, ◌+◌, subst, arith}
use Rattle.sot_tube.proofs.Walks.{WalkSoFar, walk_next, walk_out, walk_trap, walk_out_last, walk_stays}
use Rattle.sot_tube.proofs.WalkRanges.{after, front_fits, ranges_next}
use Rattle.sot_tube.proofs.walk.test_each.Goals as goal

pub returns-in-Some : goal.returns-in-Some
returns-in-Some c info at =
    walk_out c.args.p.now c.args.plant c.args.region.now c.args.b.now c.args.held.now c.args.seen.now c.args.ticks c.loop-tick.area c.loop-tick.tick
    c.loop-tick.invariant.0 info c.in-Some.point at (omega arith) c.in-Some.ensures

pub returns-in-Err : goal.returns-in-Err
returns-in-Err c info at =
    walk_trap c.args.p.now c.args.plant c.args.region.now c.args.b.now c.args.held.now c.args.seen.now c.args.ticks c.loop-tick.area c.loop-tick.tick
    c.loop-tick.invariant.0 info c.in-Err.trap at (omega arith) c.in_default.ensures
    (after c.args.p.now c.args.plant c.loop-tick.area c.args.held.now c.args.seen.now c.loop-tick.names _ c.loop-tick.invariant.1 c.in-Err.ensures)

pub iv_plant_over-requires : goal.iv_plant_over-requires
iv_plant_over-requires c = record {
  box = c.loop-tick.area;
  held = c.args.held.now;
  seen = c.args.seen.now;
  may = c.loop-tick.invariant.0.step;
  are = c.loop-tick.invariant.1;
}

pub put_front-requires : goal.put_front-requires
put_front-requires c =
    let told = after c.args.p.now c.args.plant c.loop-tick.area c.args.held.now c.args.seen.now c.loop-tick.names _ c.loop-tick.invariant.1 c.in-Ok.ensures in
    front_fits c.args.p.now c.args.plant c.loop-tick.area c.args.held.now c.args.seen.now c.loop-tick.names c.in-Ok.next c.requires.rules
    c.loop-tick.invariant.0.step c.loop-tick.invariant.1 told

pub loop-tick-preserved : goal.loop-tick-preserved
loop-tick-preserved c =
    let told = after c.args.p.now c.args.plant c.loop-tick.area c.args.held.now c.args.seen.now c.loop-tick.names _ c.loop-tick.invariant.1 c.in-Ok.ensures in
    let w = walk_next c.args.p.now c.args.plant c.args.region.now c.args.b.now c.args.held.now c.args.seen.now c.args.ticks c.loop-tick.area c.loop-tick.tick
    c.loop-tick.invariant.0 c.in-Ok.next c.requires.rules (omega arith) c.in_default.ensures told in
    let e : suc c.loop-tick.tick ≡ c.loop-tick.tick + 1 = omega arith in (
      subst (WalkSoFar c.args.p.now c.args.plant c.args.region.now c.args.b.now c.args.held.now c.args.seen.now c.args.ticks c.in-Ok.next) e w,
      ranges_next c.args.p.now c.args.plant c.loop-tick.area c.args.held.now c.args.seen.now c.loop-tick.names c.in-Ok.next c.requires.rules
          c.loop-tick.invariant.0.step c.loop-tick.invariant.1 told c.put_front.new.sides c.put_front.ensures,
    )

pub returns-in-Some-gap : goal.returns-in-Some-gap
returns-in-Some-gap c info at =
    let e : c.loop-tick.tick ≡ c.args.ticks = omega arith in
    walk_out_last c.args.p.now c.args.plant c.args.region.now c.args.b.now c.args.held.now c.args.seen.now c.args.ticks c.loop-tick.area info
    c.in-Some-gap.point
    (subst (WalkSoFar c.args.p.now c.args.plant c.args.region.now c.args.b.now c.args.held.now c.args.seen.now c.args.ticks c.loop-tick.area) e
    c.loop-tick.invariant.0) at c.in-Some-gap.ensures

pub returns-in-None : goal.returns-in-None
returns-in-None c info at =
    let e : c.loop-tick.tick ≡ c.args.ticks = omega arith in
    walk_stays c.args.p.now c.args.plant c.args.region.now c.args.b.now c.args.held.now c.args.seen.now c.args.ticks c.loop-tick.area info
    (subst (WalkSoFar c.args.p.now c.args.plant c.args.region.now c.args.b.now c.args.held.now c.args.seen.now c.args.ticks c.loop-tick.area) e
    c.loop-tick.invariant.0) at c.in-None.ensures
