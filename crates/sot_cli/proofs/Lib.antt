-- from what was answered and written to the end of a call
pub mod Endings
-- a module's plant has a start
mod Starts
