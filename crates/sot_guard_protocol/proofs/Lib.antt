pub mod Told
pub mod Lines
pub mod Conversing
mod Due
