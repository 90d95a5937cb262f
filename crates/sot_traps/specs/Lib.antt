-- what the public contracts say
pub mod Verdict
pub mod Soundness
pub mod Readings
