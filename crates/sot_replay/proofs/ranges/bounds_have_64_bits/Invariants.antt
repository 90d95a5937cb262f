use Rattle.std.proofs.Common.{ℕ, ◌<◌}
use Rattle.sot_lists.specs.Places.{At}
use Rattle.sot_lang.specs.declared.tables.NoiseInfo.{NoiseInfo}
use Rattle.sot_lang.specs.declared.tables.PlantInfo.{PlantInfo}
use Rattle.sot_trace_lines.specs.Bits.{Has64Bits}
use Rattle.sot_replay.proofs.ranges.bounds_have_64_bits.Given as goal

-- those of the plants so far have
abbrev pub invariant-loop-plant : goal.invariant-loop-plant
invariant-loop-plant l =
    (k : ℕ) (plant : PlantInfo) (i : ℕ) (info : NoiseInfo) → k < l.plant-index → At l.plants k plant → At plant.noise.items i info
    → Has64Bits info.lo × Has64Bits info.hi
