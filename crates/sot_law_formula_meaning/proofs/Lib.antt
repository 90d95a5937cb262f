pub mod PartShapes
pub mod Meanings
