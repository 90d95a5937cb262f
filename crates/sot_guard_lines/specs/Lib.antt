-- what the public contracts say
pub mod Lines
pub mod Outline
pub mod Examples
-- between the crate's own functions
pub mod Sayings
pub mod Shown
pub mod Room
pub mod Readers
