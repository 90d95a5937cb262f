-- what the public contracts say
pub mod Laws
pub mod Sights
-- worked askings
pub mod Examples
