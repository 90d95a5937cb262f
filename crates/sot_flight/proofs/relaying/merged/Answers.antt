use Rattle.std.proofs.Common.{◌+◌, ◌≤◌, ◌++◌, ◌∷◌, [], map, drop, refl, ap, ◌∙◌, arith}
use Rattle.std.proofs.lemmas.Option.{slice_get_read}
use Rattle.std.proofs.lemmas.List.{map-append}
use Rattle.sot_lists.proofs.Places.{at_map}
use Rattle.sot_flight.specs.declared.input.Input.{Input}
use Rattle.sot_flight.specs.Plans.{StatedInput}
use Rattle.sot_flight.specs.FlightView.{input_of}
use Rattle.sot_flight.specs.Relayed.{send_of, with_sends}
use Rattle.sot_flight.proofs.Merging.{sent_more}
use Rattle.sot_flight.proofs.relaying.merged.Goals as goal

pub overflow_add-at : goal.overflow_add-at
overflow_add-at c =
    let k = c.loop-sent.sent-index in
    let at = at_map send_of c.args.sends.now k _ (slice_get_read c.args.sends.now _ k c.sent-item.result refl c.loop-sent-test.true c.sent-item.is) in
    let small : c.sent-item.result.at + c.args.delay ≤ 100000 = c.requires.in_time k _ at in
    omega (arith, small)

pub loop-sent-preserved : goal.loop-sent-preserved
loop-sent-preserved c =
    let k = c.loop-sent.sent-index in
    let sends = map send_of c.args.sends.now in
    let given = map input_of c.args.given.now.items in
    let sent = c.sent-item.result in
    let at = at_map send_of c.args.sends.now k _ (slice_get_read c.args.sends.now _ k sent refl c.loop-sent-test.true c.sent-item.is) in
    let new : Input = record { at = sent.at + c.args.delay; topic = c.args.topic; value = c.in_ok-value.value } in
    let pushed = ap (map input_of) c.in_ok-push.ensures.items ∙ map-append input_of c.copy_until.new.all.items (new ∷ [])
    ∙ ap (λ l. l ++ input_of new ∷ []) c.in_ok-place.ensures.inputs in
    let value = ap (λ v. let x : StatedInput = record { at = sent.at + c.args.delay; topic = c.args.topic; value = v } in x) c.in_ok-value.ensures in
    record {
      inputs =
          ap (λ l. l ++ with_sends c.args.topic c.args.delay (drop (k + 1) sends) (drop c.in_ok-place.place given)) pushed
          ∙ sent_more c.args.topic c.args.delay (map input_of c.loop-sent.all.items) given sends k c.loop-sent.place c.in_ok-place.place (send_of sent)
          (input_of new) _
          c.requires.ordered at c.in_ok-place.ensures.place value c.loop-sent.invariant.inputs;
      bound = c.in_ok-place.ensures.bound;
    }
