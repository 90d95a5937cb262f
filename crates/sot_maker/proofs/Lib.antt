pub mod Declared
pub mod Ordered
pub mod Behind
pub mod Apart
pub mod Short
pub mod ShortMissions
