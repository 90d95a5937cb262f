use Rattle.std.proofs.Common.{◌≡◌, suc, ◌+◌, refl, subst, arith, sym}
use Rattle.sot_tube.proofs.Covered.{ShownSoFar, shown_next, shown}
use Rattle.sot_tube.proofs.WalkRanges.{after, same, front_fits, ranges_next}
use Rattle.sot_tube.proofs.walk.stays.Goals as goal

pub iv_plant_over-requires : goal.iv_plant_over-requires
iv_plant_over-requires c = record {
  box = c.loop-tick.area;
  held = c.args.held.now;
  seen = c.args.seen.now;
  may = c.loop-tick.invariant.0.step;
  are = c.loop-tick.invariant.1;
}

pub is_covered_with-requires-clause-same : goal.is_covered_with-requires-clause-same
is_covered_with-requires-clause-same c =
    let told = after c.args.p.now c.args.plant c.loop-tick.area c.args.held.now c.args.seen.now c.loop-tick.names _ c.loop-tick.invariant.1 c.in-Ok.ensures in
    sym (same c.args.p.now c.args.plant c.loop-tick.area c.args.held.now c.args.seen.now c.loop-tick.names c.in-Ok.next c.requires.rules
    c.loop-tick.invariant.0.step c.loop-tick.invariant.1 told)

pub is_covered_with-requires-clause-width : goal.is_covered_with-requires-clause-width
is_covered_with-requires-clause-width c = c.loop-tick.invariant.0.width

pub put_front-requires : goal.put_front-requires
put_front-requires c =
    let told = after c.args.p.now c.args.plant c.loop-tick.area c.args.held.now c.args.seen.now c.loop-tick.names _ c.loop-tick.invariant.1 c.in-Ok.ensures in
    front_fits c.args.p.now c.args.plant c.loop-tick.area c.args.held.now c.args.seen.now c.loop-tick.names c.in-Ok.next c.requires.rules
    c.loop-tick.invariant.0.step c.loop-tick.invariant.1 told

pub loop-tick-preserved : goal.loop-tick-preserved
loop-tick-preserved c =
    let told = after c.args.p.now c.args.plant c.loop-tick.area c.args.held.now c.args.seen.now c.loop-tick.names _ c.loop-tick.invariant.1 c.in-Ok.ensures in
    let w = shown_next c.args.p.now c.args.plant c.args.region.now c.args.b.now c.args.held.now c.args.seen.now c.args.ticks c.loop-tick.area c.in-Ok.next
    c.loop-tick._tick c.loop-tick.invariant.0 c.requires.rules (omega arith) (c.if-not-is_covered_with.ensures refl) told in
    let e : suc c.loop-tick._tick ≡ c.loop-tick._tick + 1 = omega arith in (
      subst (ShownSoFar c.args.p.now c.args.plant c.args.region.now c.args.b.now c.args.held.now c.args.seen.now c.args.ticks c.in-Ok.next) e w,
      ranges_next c.args.p.now c.args.plant c.loop-tick.area c.args.held.now c.args.seen.now c.loop-tick.names c.in-Ok.next c.requires.rules
          c.loop-tick.invariant.0.step c.loop-tick.invariant.1 told c.put_front.new.sides c.put_front.ensures,
    )

pub covers-requires : goal.covers-requires
covers-requires c = c.loop-tick.invariant.0.width

pub returns : goal.returns
returns c t =
    let e : c.loop-tick._tick ≡ c.args.ticks = omega arith in
    shown c.args.p.now c.args.plant c.args.region.now c.args.b.now c.args.held.now c.args.seen.now c.args.ticks c.loop-tick.area
    (subst (ShownSoFar c.args.p.now c.args.plant c.args.region.now c.args.b.now c.args.held.now c.args.seen.now c.args.ticks c.loop-tick.area) e
    c.loop-tick.invariant.0) (c.covers.ensures.0 t)
