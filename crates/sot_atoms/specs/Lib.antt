-- what the public contracts say
pub mod Places
pub mod Blocks
pub mod Grids
pub mod Sets
-- between the crate's own functions
pub mod BlockSides
pub mod Rows
