use Rattle.std.proofs.Common.{List, Ok, subst}
use Rattle.sot_box.specs.Sides.{Side}
use Rattle.sot_iv.specs.TermIntervals.{OrMayTrap}
use Rattle.sot_iv.specs.PlantTicks.{IsBoxOver}
use Rattle.sot_recover.proofs.Boxes.{goes_on, fits, tube_next}
use Rattle.sot_recover.proofs.tube.put_boxes.Goals as goal

pub unwrap-next-requires : goal.unwrap-next-requires
unwrap-next-requires c =
    (let l = c.loop-tick in goes_on c.args.p.now c.args.plant c.args.first.now c.args.held.now c.args.seen.now l.area l._tick l.names l.boxes.items l.invariant
    c.args.ticks c.loop-tick-test.true c.requires.goes c.iv_plant_over.result c.iv_plant_over.ensures)

pub put_front-requires : goal.put_front-requires
put_front-requires c =
    let l = c.loop-tick in
    let over : IsBoxOver c.args.p.now c.args.plant l.names (Ok c.unwrap-next.result) =
    subst (λ (o : OrMayTrap (List Side)). IsBoxOver c.args.p.now c.args.plant l.names o) c.unwrap-next.ensures c.iv_plant_over.ensures in
    fits c.args.p.now c.args.plant c.args.first.now c.args.held.now c.args.seen.now l.area l._tick l.names l.boxes.items l.invariant c.unwrap-next.result
    c.requires.rules over

pub loop-tick-preserved : goal.loop-tick-preserved
loop-tick-preserved c =
    let l = c.loop-tick in
    let over : IsBoxOver c.args.p.now c.args.plant l.names (Ok c.unwrap-next.result) =
    subst (λ (o : OrMayTrap (List Side)). IsBoxOver c.args.p.now c.args.plant l.names o) c.unwrap-next.ensures c.iv_plant_over.ensures in
    tube_next c.args.p.now c.args.plant c.args.first.now c.args.held.now c.args.seen.now l.area l._tick l.names l.boxes.items l.invariant c.unwrap-next.result
    c.requires.rules over c.put_front.new.sides c.push-in-loop-tick.new.self.items c.put_front.ensures c.in_ok-push-2.ensures.items
