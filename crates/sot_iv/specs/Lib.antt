-- what public contracts say
pub mod TermIntervals
pub mod BodyIntervals
pub mod NodeIntervals
pub mod PlantIntervals
pub mod PlantTicks
pub mod NodeFirings
pub mod SeenHulls
pub mod TrapFree
pub mod Soundness
pub mod Uniqueness
pub mod Monotony
pub mod Examples
pub mod BodyExamples
-- what stands between own functions
pub mod Ends
pub mod Evaluation
pub mod Firings
