use Rattle.std.proofs.Common.{◌≡◌, [], map, drop}
use Rattle.serde_json.specs.View.{items_view}
use Rattle.sot_json.specs.Json.{each_after}
use Rattle.sot_flight.specs.FlightView.{input_of}
use Rattle.sot_flight.specs.FlightFormat.{input}
use Rattle.sot_flight.proofs.inputs.each_input.Given as goal

abbrev pub invariant-loop-item : goal.invariant-loop-item
invariant-loop-item l =
    each_after (input l.fn.p l.fn.horizon) (map input_of l.found.items) (items_view (drop l.item-index l.item-items))
    ≡ each_after (input l.fn.p l.fn.horizon) [] (items_view l.list.items)
