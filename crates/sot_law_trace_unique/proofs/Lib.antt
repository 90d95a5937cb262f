pub mod Named
pub mod Looks
pub mod OneHistory
