use Rattle.std.proofs.Common.{◌≡◌, drop}
use Rattle.std.specs.Prelude.{filter}
use Rattle.sot_json.specs.Json.{is_among}
use Rattle.sot_flight.specs.FlightFormat.{node_names, is_external}
use Rattle.sot_flight.proofs.keys.is_external_node.Given as goal

abbrev pub invariant-loop-node : goal.invariant-loop-node
invariant-loop-node l =
    is_among l.fn.key (node_names (filter is_external l.fn.nodes)) ≡ is_among l.fn.key (node_names (filter is_external (drop l.node-index l.fn.nodes)))
