pub mod Commas
pub mod Counts
pub mod Parts
