-- what the public contracts say
pub mod Sides
pub mod Boxes
pub mod Regions
pub mod BoxList
-- between the crate's own types and functions
pub mod PointSlots
pub mod BoxSlots
pub mod Sweep
pub mod Index
pub mod Widened
