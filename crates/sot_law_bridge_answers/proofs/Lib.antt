pub mod Near
pub mod Halves
pub mod Refused
pub mod Apart
pub mod Rejected
