pub mod Clock
pub mod Counting
pub mod Examples
