use Rattle.std.proofs.Common.{arith}
use Rattle.std.proofs.lemmas.Option.{slice_get_within}
use Rattle.sot_box.specs.Boxes.{IsBefore}
use Rattle.sot_box.specs.Sweep.{IsSwept}
use Rattle.sot_box.proofs.Left.{left-falls}
use Rattle.sot_box.proofs.Within.{in-order, lows-width, highs-width}
use Rattle.sot_box.proofs.Sweeps.{swept-start, gap-step, gap-here, corner-within}
use Rattle.sot_box.proofs.region.Region.gap.Goals as goal

pub loop-i-init : goal.loop-i-init
loop-i-init c =
    rw (c.low-at.ensures.corner, c.high-reach.ensures)
    (swept-start c.args.self.now.boxes c.args.b.now (in-order c.args.b.now c.low-at.ensures.ordered) (lows-width c.args.b.now) (highs-width c.args.b.now))

pub at-by-requires : goal.at-by-requires
at-by-requires c = slice_get_within c.args.self.now.boxes c.in-Some.i c.in-Some.ensures.0 c.in-Some.ensures.1

pub narrow-requires : goal.narrow-requires
narrow-requires c = omega (arith, c.at-by.ensures.width, c.requires, c.loop-i.invariant.corners.reach_width)

pub advance-requires : goal.advance-requires
advance-requires c =
    (gap-step c.args.self.now.boxes c.args.b.now c.at-by.result c.loop-i.at c.loop-i.reach c.narrow.new.reach c.in-Some.i
    (omega (arith, c.at-by.ensures.width, c.requires)) c.loop-i.invariant c.in-Some.ensures c.at-by.ensures.place c.narrow.ensures).0.corners

pub returns-then-not-advance : goal.returns-then-not-advance
returns-then-not-advance c =
    let n = gap-step c.args.self.now.boxes c.args.b.now c.at-by.result c.loop-i.at c.loop-i.reach c.narrow.new.reach c.in-Some.i
    (omega (arith, c.at-by.ensures.width, c.requires)) c.loop-i.invariant c.in-Some.ensures c.at-by.ensures.place c.narrow.ensures in
    c.if-not-advance.ensures c.args.self.now.boxes n.0 n.1

pub loop-i-smaller : goal.loop-i-smaller
loop-i-smaller c =
    let n = gap-step c.args.self.now.boxes c.args.b.now c.at-by.result c.loop-i.at c.loop-i.reach c.narrow.new.reach c.in-Some.i
    (omega (arith, c.at-by.ensures.width, c.requires)) c.loop-i.invariant c.in-Some.ensures c.at-by.ensures.place c.narrow.ensures in
    let m : IsSwept c.args.self.now.boxes c.args.b.now c.advance.new.at c.advance.new.reach × IsBefore c.loop-i.at c.advance.new.at =
    c.if-not-advance.ensures c.args.self.now.boxes n.0 n.1 in
    left-falls c.args.b.now c.loop-i.at c.advance.new.at
    (corner-within c.args.b.now c.loop-i.at c.loop-i.reach c.loop-i.invariant.corners)
    (corner-within c.args.b.now c.advance.new.at c.advance.new.reach m.0.corners) m.1

pub loop-i-preserved : goal.loop-i-preserved
loop-i-preserved c =
    let n = gap-step c.args.self.now.boxes c.args.b.now c.at-by.result c.loop-i.at c.loop-i.reach c.narrow.new.reach c.in-Some.i
    (omega (arith, c.at-by.ensures.width, c.requires)) c.loop-i.invariant c.in-Some.ensures c.at-by.ensures.place c.narrow.ensures in
    let m : IsSwept c.args.self.now.boxes c.args.b.now c.advance.new.at c.advance.new.reach × IsBefore c.loop-i.at c.advance.new.at =
    c.if-not-advance.ensures c.args.self.now.boxes n.0 n.1 in
    m.0

pub returns : goal.returns
returns c = gap-here c.args.self.now.boxes c.args.b.now c.loop-i.at c.loop-i.reach c.loop-i.invariant c.in_default.ensures
