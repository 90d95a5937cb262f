pub mod Words
pub mod Scales
pub mod Filling
pub mod RangeReads
pub mod Steps
pub mod Nodes
pub mod Plants
