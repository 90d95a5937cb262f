-- what the public contracts say
pub mod Shapes
pub mod Grains
-- between the crate's own functions
pub mod Searches
