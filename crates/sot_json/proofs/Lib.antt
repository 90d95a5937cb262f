-- what JSON values say, for the readers here and of formats above
pub mod Faults
pub mod Escapes
pub mod Lists
pub mod Parts
pub mod Binds
pub mod Bounds
