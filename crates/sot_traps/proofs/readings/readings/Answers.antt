use Rattle.std.proofs.Common.{◌+◌, take, sym, subst, arith, length-take-le}
use Rattle.sot_traps.specs.Readings.{AreReadings}
use Rattle.sot_traps.proofs.SlotReadings.{readings_more, readings_length}
use Rattle.sot_traps.proofs.readings.readings.Goals as goal

pub push-requires : goal.push-requires
push-requires c =
    let i = c.loop-slot.slot-index in
    let e = readings_length c.args.p.now (take i c.args.slots.now) c.loop-slot.sides c.loop-slot.invariant in
    let size = length-take-le i c.args.slots.now (omega (arith, c.loop-slot-test.true)) in
    omega (arith, e, size, c.loop-slot-test.true, c.requires.few)

pub loop-slot-preserved : goal.loop-slot-preserved
loop-slot-preserved c =
    let i = c.loop-slot.slot-index in
    let more = readings_more c.args.p.now c.args.slots.now i c.loop-slot.sides _ c.slot_side-side.result c.loop-slot-test.true c.loop-slot.invariant
    c.slot_side-side.ensures in
    subst (λ q. AreReadings c.args.p.now (take (i + 1) c.args.slots.now) q) (sym c.push.ensures) more
