-- what the contract of `check_all` rests on
pub mod Accepting
-- the conditions that speak of no cells
pub mod Frames
-- what the functions inside the crate promise each other
pub mod Parts
pub mod Outputs
