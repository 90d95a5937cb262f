-- what the public contracts say
pub mod Laws
pub mod ModuleLaws
