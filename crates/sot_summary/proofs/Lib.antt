pub mod RegionTests
pub mod Points
pub mod Counting
pub mod Ticking
pub mod Inside
