pub mod Follows
pub mod Ticking
pub mod Kept
pub mod Steps
pub mod Main
