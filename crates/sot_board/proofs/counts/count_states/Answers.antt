use Rattle.std.proofs.Common.{length, refl, ap, arith}
use Rattle.std.proofs.lemmas.Option.{slice_get_read}
use Rattle.sot_lists.proofs.Places.{drop_at}
use Rattle.sot_board.specs.Counts.{state_count}
use Rattle.sot_board.proofs.counts.count_states.Goals as goal

pub loop-plant-preserved : goal.loop-plant-preserved
loop-plant-preserved c =
    let plants = c.args.plants.now in
    let k = c.loop-plant.invariant in
    let at = slice_get_read plants (length plants) c.loop-plant.plant-index c.plant-item.result refl c.loop-plant-test.true c.plant-item.is in
    let next = ap state_count (drop_at plants c.loop-plant.plant-index c.plant-item.result at) in
    let few = c.requires.each c.loop-plant.plant-index c.plant-item.result at in
    record {
      few = omega (arith, k.few, c.len-count.ensures, few);
      rest = omega (arith, k.rest, next, c.len-count.ensures);
    }
