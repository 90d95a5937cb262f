-- The bounds of disturbances.
use Rattle.std.specs.Prelude.{List, map}
use Rattle.sot_lang.specs.declared.tables.NoiseInfo.{NoiseInfo}
use Rattle.sot_box.specs.Sides.{Side}

abbrev pub noise_ranges : List NoiseInfo → List Side
noise_ranges noise = map (λ d. record { lo = d.lo; hi = d.hi }) noise
