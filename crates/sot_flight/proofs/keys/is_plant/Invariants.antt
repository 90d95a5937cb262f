use Rattle.std.proofs.Common.{◌≡◌, drop}
use Rattle.sot_json.specs.Json.{is_among}
use Rattle.sot_flight.specs.FlightFormat.{plant_names}
use Rattle.sot_flight.proofs.keys.is_plant.Given as goal

abbrev pub invariant-loop-plant : goal.invariant-loop-plant
invariant-loop-plant l = is_among l.fn.key (plant_names l.fn.plants) ≡ is_among l.fn.key (plant_names (drop l.plant-index l.fn.plants))
