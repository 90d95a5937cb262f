-- grains that are told side by side
pub mod UnitGrains
