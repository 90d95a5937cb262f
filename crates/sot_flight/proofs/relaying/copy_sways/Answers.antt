use Rattle.std.proofs.Common.{◌<◌, length, ap, arith}
use Rattle.sot_lists.proofs.Places.{at_map, read_at}
use Rattle.sot_flight.specs.FlightView.{sway_of}
use Rattle.sot_flight.proofs.Merging.{pushed_more}
use Rattle.sot_flight.proofs.relaying.copy_sways.Goals as goal

pub loop-sway-preserved : goal.loop-sway-preserved
loop-sway-preserved c =
    let i = c.loop-sway.sway-index in
    let e = c.deref-sway-items.ensures.value in
    let below : i < length c.args.sways.now.items = omega (arith, c.loop-sway-test.true, ap length e) in
    let at = at_map sway_of c.args.sways.now.items i _ (read_at _ _ i c.sway-item.result e below c.sway-item.is) in
    pushed_more sway_of c.loop-sway.found.items _ c.in_ok-copy_sway.field-0 _ i _ _ c.in_ok-push.ensures.items c.in_ok-copy_sway.ensures at
    c.loop-sway.invariant
