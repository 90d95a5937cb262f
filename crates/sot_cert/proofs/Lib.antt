-- lemmas on certificates
pub mod Modules
pub mod Sides
pub mod Plants
pub mod Fits
