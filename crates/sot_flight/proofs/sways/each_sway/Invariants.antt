use Rattle.std.proofs.Common.{◌≡◌, [], map, drop}
use Rattle.serde_json.specs.View.{members_view}
use Rattle.sot_flight.specs.ListForms.{for_each_after}
use Rattle.sot_flight.specs.FlightView.{sway_of}
use Rattle.sot_flight.specs.FlightFormat.{sway_at}
use Rattle.sot_flight.proofs.sways.each_sway.Given as goal

abbrev pub invariant-loop-plant : goal.invariant-loop-plant
invariant-loop-plant l =
    for_each_after (λ done. sway_at (members_view l.fn.object.entries)) (map sway_of l.found.items) (drop l.plant-index l.fn.p.plants)
    ≡ for_each_after (λ done. sway_at (members_view l.fn.object.entries)) [] l.fn.p.plants
