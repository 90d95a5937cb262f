use Rattle.std.proofs.Common.{◌<◌, length, ap, arith}
use Rattle.sot_lists.proofs.Places.{at_map, read_at}
use Rattle.sot_flight.specs.FlightView.{crew_of}
use Rattle.sot_flight.proofs.Merging.{pushed_more}
use Rattle.sot_flight.proofs.relaying.copy_crews.Goals as goal

pub loop-crew-preserved : goal.loop-crew-preserved
loop-crew-preserved c =
    let i = c.loop-crew.crew-index in
    let e = c.deref-crew-items.ensures.value in
    let below : i < length c.args.crews.now.items = omega (arith, c.loop-crew-test.true, ap length e) in
    let at = at_map crew_of c.args.crews.now.items i _ (read_at _ _ i c.crew-item.result e below c.crew-item.is) in
    pushed_more crew_of c.loop-crew.found.items _ c.in_ok-copy_crew.field-0 _ i _ _ c.in_ok-push.ensures.items c.in_ok-copy_crew.ensures at
    c.loop-crew.invariant
