-- what the public contracts say
pub mod Fitting
pub mod WithoutRegions
pub mod OtherTables
pub mod Laws
