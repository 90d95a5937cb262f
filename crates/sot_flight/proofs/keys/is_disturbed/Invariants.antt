use Rattle.std.proofs.Common.{◌≡◌, drop}
use Rattle.std.specs.Prelude.{filter}
use Rattle.sot_json.specs.Json.{is_among}
use Rattle.sot_flight.specs.FlightFormat.{plant_names, has_noise}
use Rattle.sot_flight.proofs.keys.is_disturbed.Given as goal

abbrev pub invariant-loop-plant : goal.invariant-loop-plant
invariant-loop-plant l =
    is_among l.fn.key (plant_names (filter has_noise l.fn.plants)) ≡ is_among l.fn.key (plant_names (filter has_noise (drop l.plant-index l.fn.plants)))
