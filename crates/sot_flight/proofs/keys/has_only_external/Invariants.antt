use Rattle.std.proofs.Common.{◌≡◌}
use Rattle.std.specs.Prelude.{filter}
use Rattle.serde_json.specs.View.{members_view}
use Rattle.sot_json.specs.Json.{all_among}
use Rattle.sot_flight.specs.FlightFormat.{node_names, is_external}
use Rattle.sot_flight.proofs.keys.has_only_external.Given as goal

abbrev pub invariant-loop-key : goal.invariant-loop-key
invariant-loop-key l =
    all_among (members_view l.fn.object.entries) (node_names (filter is_external l.fn.p.nodes))
    ≡ all_among (members_view l.key-iterator) (node_names (filter is_external l.fn.p.nodes))
