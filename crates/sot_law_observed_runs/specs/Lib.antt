-- what a reader has to trust
pub mod Observed
-- what the public contracts say
pub mod Tubes
pub mod Laws
