pub mod Instants
pub mod Talks
pub mod LineDistrusted
