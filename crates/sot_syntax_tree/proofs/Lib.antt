pub mod Names
pub mod CallRows
pub mod BlockRows
