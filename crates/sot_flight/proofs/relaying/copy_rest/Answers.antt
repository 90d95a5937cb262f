use Rattle.std.proofs.Common.{◌<◌, length, refl, arith}
use Rattle.std.proofs.lemmas.Option.{slice_get_read}
use Rattle.sot_lists.proofs.Places.{at_map}
use Rattle.sot_flight.specs.FlightView.{input_of}
use Rattle.sot_flight.proofs.Merging.{pushed_more}
use Rattle.sot_flight.proofs.relaying.copy_rest.Goals as goal

pub loop-place-preserved : goal.loop-place-preserved
loop-place-preserved c =
    let given = c.args.given.now in
    let below : c.loop-place.place < length given.items = omega (arith, c.len-place-end.ensures, c.loop-place-test.true, given.ok.0) in
    let at = at_map input_of given.items c.loop-place.place _ (slice_get_read given.items _ c.loop-place.place c.index.result.now refl below c.index.ensures) in
    pushed_more input_of c.loop-place.all.items _ c.in_ok-copy_input.field-0 _ c.loop-place.place _ _ c.in_ok-push.ensures.items c.in_ok-copy_input.ensures at
    c.loop-place.invariant
