-- when two programs are the same
pub mod Unplaced
-- worked programs
pub mod Examples
