-- The ranges of scalars, locals and disturbances.
use Rattle.std.specs.Prelude.{ℕ, List, slice_index_or, map}
use Rattle.sot_lang.specs.declared.tables.ScalarInfo.{ScalarInfo}
use Rattle.sot_lang.specs.declared.tables.PlantInfo.{PlantInfo}
use Rattle.sot_lang.specs.declared.tables.NodeInfo.{NodeInfo}
use Rattle.sot_lang.specs.Tables.{Tables}
use Rattle.sot_box.specs.Sides.{Side, nought}

-- the range of a scalar, by its place
abbrev pub range_of : List ScalarInfo → ℕ → Side
range_of infos k = slice_index_or (map (λ i. record { lo = i.lo; hi = i.hi }) infos) k nought

-- the bounds of a plant's disturbances
abbrev pub bounds : PlantInfo → List Side
bounds plant = map (λ d. record { lo = d.lo; hi = d.hi }) plant.noise.items

-- the types of a plant's input scalars
abbrev pub input_ranges : Tables → PlantInfo → List Side
input_ranges p plant = map (range_of p.scalars) plant.inputs.items

-- the ranges of all scalars
abbrev pub scalar_ranges : Tables → List Side
scalar_ranges p = map (λ i. record { lo = i.lo; hi = i.hi }) p.scalars

-- the ranges of a node's locals
abbrev pub local_ranges : NodeInfo → List Side
local_ranges node = map (λ l. record { lo = l.lo; hi = l.hi }) node.locals.items

-- the ranges of the scalars that a node writes
abbrev pub write_ranges : Tables → NodeInfo → List Side
write_ranges p node = map (range_of p.scalars) node.writes.items
