use Rattle.std.proofs.Common.{◌<◌, ◌≤◌, ◌+◌, ◌++◌, ◌∷◌, [], length, map, drop, refl, ap, ◌∙◌, arith}
use Rattle.std.proofs.lemmas.Option.{slice_get_read}
use Rattle.std.proofs.lemmas.List.{map-append}
use Rattle.sot_lists.proofs.Places.{at_map}
use Rattle.sot_flight.specs.EarlyInputs.{early}
use Rattle.sot_flight.specs.FlightView.{input_of}
use Rattle.sot_flight.proofs.Merging.{early_more, early_counted, early_off, early_done, early_count_done}
use Rattle.sot_flight.proofs.relaying.copy_until.Goals as goal

pub returns-then-input-time-clause-inputs : goal.returns-then-input-time-clause-inputs
returns-then-input-time-clause-inputs c =
    let given = c.args.given.now in
    let below : c.loop-place.place < length given.items = omega (arith, c.len-place-end.ensures, c.loop-place-test.true, given.ok.0) in
    let at =
    at_map input_of given.items c.loop-place.place _ (slice_get_read given.items _ c.loop-place.place c.index-input.result.now refl below
    c.index-input.ensures) in
    let late : c.args.time < c.index-input.result.now.at = omega (arith, c.if-input-time.true) in
    early_done _ c.args.time c.loop-place.place _ _ (early_off c.args.time c.loop-place.place _ _ at late) c.loop-place.invariant.inputs

pub returns-then-input-time-clause-place : goal.returns-then-input-time-clause-place
returns-then-input-time-clause-place c =
    let given = c.args.given.now in
    let below : c.loop-place.place < length given.items = omega (arith, c.len-place-end.ensures, c.loop-place-test.true, given.ok.0) in
    let at =
    at_map input_of given.items c.loop-place.place _ (slice_get_read given.items _ c.loop-place.place c.index-input.result.now refl below
    c.index-input.ensures) in
    let late : c.args.time < c.index-input.result.now.at = omega (arith, c.if-input-time.true) in
    early_count_done c.args.time c.loop-place.place _ _ (early_off c.args.time c.loop-place.place _ _ at late) c.loop-place.invariant.place

pub loop-place-preserved : goal.loop-place-preserved
loop-place-preserved c =
    let given = c.args.given.now in
    let i = c.loop-place.place in
    let ys = map input_of given.items in
    let below : c.loop-place.place < length given.items = omega (arith, c.len-place-end.ensures, c.loop-place-test.true, given.ok.0) in
    let at = at_map input_of given.items i _ (slice_get_read given.items _ i c.index-input.result.now refl below c.index-input.ensures) in
    let soon : c.index-input.result.now.at ≤ c.args.time = omega (arith, c.if-input-time.false) in
    let pushed = ap (map input_of) c.in_ok-push.ensures.items ∙ map-append input_of c.loop-place.all.items (c.in_ok-copy_input.field-0 ∷ [])
    ∙ ap (λ x. map input_of c.loop-place.all.items ++ x ∷ []) c.in_ok-copy_input.ensures in
    record {
      inputs =
          ap (λ l. l ++ early c.args.time (drop (i + 1) ys)) pushed
          ∙ early_more (map input_of c.loop-place.all.items) c.args.time i ys _ _ at soon c.loop-place.invariant.inputs;
      place = early_counted c.args.time i ys _ _ at soon c.loop-place.invariant.place;
    }
