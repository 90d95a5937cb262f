pub mod Strangers
pub mod InOrder
pub mod Composed
pub mod Certified
