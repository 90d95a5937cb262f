-- what the laws say
pub mod Firings
-- what the facts say
pub mod Views
pub mod Stated
pub mod Fits
pub mod Limits
pub mod Versions
pub mod Marks
-- a worked flight
pub mod Examples
