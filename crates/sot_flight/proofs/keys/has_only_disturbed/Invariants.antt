use Rattle.std.proofs.Common.{◌≡◌}
use Rattle.std.specs.Prelude.{filter}
use Rattle.serde_json.specs.View.{members_view}
use Rattle.sot_json.specs.Json.{all_among}
use Rattle.sot_flight.specs.FlightFormat.{plant_names, has_noise}
use Rattle.sot_flight.proofs.keys.has_only_disturbed.Given as goal

abbrev pub invariant-loop-key : goal.invariant-loop-key
invariant-loop-key l =
    all_among (members_view l.fn.object.entries) (plant_names (filter has_noise l.fn.p.plants))
    ≡ all_among (members_view l.key-iterator) (plant_names (filter has_noise l.fn.p.plants))
