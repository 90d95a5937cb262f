use Rattle.std.proofs.Common.{◌≡◌, [], map, drop}
use Rattle.serde_json.specs.View.{members_view}
use Rattle.sot_flight.specs.ListForms.{for_each_after}
use Rattle.sot_flight.specs.FlightView.{crew_of}
use Rattle.sot_flight.specs.FlightFormat.{crew_at}
use Rattle.sot_flight.proofs.crews.each_crew.Given as goal

abbrev pub invariant-loop-node : goal.invariant-loop-node
invariant-loop-node l =
    for_each_after (crew_at l.fn.guests (members_view l.fn.object.entries)) (map crew_of l.found.items) (drop l.node-index l.fn.p.nodes)
    ≡ for_each_after (crew_at l.fn.guests (members_view l.fn.object.entries)) [] l.fn.p.nodes
