-- what the public contracts say
pub mod Laws
pub mod Told
pub mod ToldModes
pub mod Completion
pub mod Possible
-- worked values
pub mod Examples
