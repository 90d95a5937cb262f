-- what the contract of `make` cites, in reading order
pub mod Offsets
pub mod Declarations
pub mod NameOrder
pub mod Members
pub mod Missions
-- the law of the offsets, and worked values
pub mod Laws
pub mod Examples
