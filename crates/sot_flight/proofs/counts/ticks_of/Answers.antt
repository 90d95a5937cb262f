use Rattle.std.proofs.Common.{refl, arith}
use Rattle.std.proofs.lemmas.Option.{slice_get_read}
use Rattle.sot_flight.proofs.DueCounts.{ticks_more, ticks_small}
use Rattle.sot_flight.proofs.counts.ticks_of.Goals as goal

pub overflow_add-sum-in-loop-plant : goal.overflow_add-sum-in-loop-plant
overflow_add-sum-in-loop-plant c =
    let list = c.args.plants.now in
    let plant = c.plant-item.result in
    let at = slice_get_read list _ c.loop-plant.plant-index plant refl c.loop-plant-test.true c.plant-item.is in
    let more = ticks_more list c.loop-plant.plant-index plant at in
    let small = ticks_small list c.requires.few in
    omega (arith, c.loop-plant.invariant, more, small, c.requires.count, c.len.ensures, c.len-in-loop-plant.ensures, plant.noise.ok.0, plant.states.ok.0)

pub returns-clause-small : goal.returns-clause-small
returns-clause-small c =
    let small = ticks_small c.args.plants.now c.requires.few in
    omega (arith, c.loop-plant.invariant, small, c.requires.count)
