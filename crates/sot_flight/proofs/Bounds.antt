-- The bounds of disturbances and the ranges of written scalars, by their places.
use Rattle.std.proofs.Common.{◌≡◌, ℕ, ◌+◌, length, Some, ap, ◌∙◌}
use Rattle.std.proofs.lemmas.List.{length-map}
use Rattle.sot_lists.specs.Places.{At}
use Rattle.sot_lists.proofs.Places.{at_map}
use Rattle.sot_box.specs.Sides.{Side}
use Rattle.sot_box.specs.Boxes.{lows, highs}
use Rattle.sot_lang.specs.declared.tables.NoiseInfo.{NoiseInfo}
use Rattle.sot_lang.specs.declared.tables.ScalarInfo.{ScalarInfo}
use Rattle.sot_lang.specs.declared.tables.PlantInfo.{PlantInfo}
use Rattle.sot_lang.specs.declared.tables.NodeInfo.{NodeInfo}
use Rattle.sot_lang.specs.Tables.{Tables}
use Rattle.sot_lang.specs.Ranges.{bounds, range_of, write_ranges}
use Rattle.sot_lang.proofs.Owners.{range_at}
use Rattle.sot_random_words.specs.Words.{word}
use Rattle.sot_flight.specs.Draws.{drawn, drawn_from}
use Rattle.sot_flight.specs.declared.spread.Spread.{Spread}
use Rattle.sot_flight.proofs.Drawn.{drawn_at, length-drawn_from}

module _ (plant : PlantInfo) (i : ℕ) (info : NoiseInfo) (at : At plant.noise.items i info) where
  pub bound_at : At (bounds plant) i (record { lo = info.lo; hi = info.hi })
  bound_at = at_map (λ d. let s : Side = record { lo = d.lo; hi = d.hi } in s) plant.noise.items i info at

  pub low_at : At (lows (bounds plant)) i info.lo
  low_at = at_map (λ r. r.lo) (bounds plant) i _ bound_at

  pub high_at : At (highs (bounds plant)) i info.hi
  high_at = at_map (λ r. r.hi) (bounds plant) i _ bound_at

  pub noise_drawn_at : (spread : Spread) (seed stream given : ℕ) → At (drawn_from spread seed stream given (bounds plant)) i
      (drawn spread (record { lo = info.lo; hi = info.hi }) (word seed stream (given + i)))
  noise_drawn_at spread seed stream given = drawn_at spread seed stream given (bounds plant) i _ bound_at

pub length-bounds : (plant : PlantInfo) → length (bounds plant) ≡ length plant.noise.items
length-bounds plant = length-map plant.noise.items (λ d. let s : Side = record { lo = d.lo; hi = d.hi } in s)

pub length-noise_drawn : (plant : PlantInfo) (spread : Spread) (seed stream given : ℕ) → length (drawn_from spread seed stream given (bounds plant)) ≡ length plant.noise.items
length-noise_drawn plant spread seed stream given = length-drawn_from spread seed stream given (bounds plant) ∙ length-bounds plant

-- the range of a scalar that a node writes
pub write_at : (p : Tables) (node : NodeInfo) (i k : ℕ) (info : ScalarInfo) → At node.writes.items i k → At p.scalars k info
    → At (write_ranges p node) i (record { lo = info.lo; hi = info.hi })
write_at p node i k info at is = at_map (range_of p.scalars) node.writes.items i k at ∙ ap Some (range_at p.scalars k info is)
