-- what the public contracts say
pub mod Fronts
pub mod Marks
pub mod Reading
-- between the crate's own functions
pub mod Waiting
