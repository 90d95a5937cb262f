-- what the public contracts say
pub mod Laws
