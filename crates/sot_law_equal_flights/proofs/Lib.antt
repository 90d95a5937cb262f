-- the values of expressions, and what bodies leave, by what they look like
pub mod Values
pub mod Bodies
-- steps, and what flights state
pub mod Parts
pub mod Stated
pub mod Steps
pub mod Histories
