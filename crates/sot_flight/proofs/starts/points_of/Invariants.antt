use Rattle.std.proofs.Common.{◌≡◌, [], drop}
use Rattle.serde_json.specs.View.{members_view}
use Rattle.sot_flight.specs.ListForms.{for_each_after}
use Rattle.sot_flight.specs.FlightFormat.{point_at}
use Rattle.sot_flight.proofs.starts.points_of.Given as goal

abbrev pub invariant-loop-plant : goal.invariant-loop-plant
invariant-loop-plant l =
    for_each_after (λ done. point_at (members_view l.fn.object.entries)) l.found.items (drop l.plant-index l.fn.p.plants)
    ≡ for_each_after (λ done. point_at (members_view l.fn.object.entries)) [] l.fn.p.plants
