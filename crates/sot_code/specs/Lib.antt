-- what the public contracts say
pub mod Recorded
-- what the crate's own functions promise each other
pub mod LocalSlots
pub mod Firings
pub mod Points
