-- between the crate's own functions
pub mod Holding
pub mod Tracked
pub mod Tracking
pub mod Standing
pub mod Moments
pub mod Seen
pub mod Laws
