-- the tables of a program
pub mod Formulas
pub mod Terms
pub mod Resolved
-- worked programs
pub mod Examples
-- what the functions inside the crate promise each other
pub mod Things
pub mod Sorted
pub mod Bodies
pub mod Parts
pub mod Numbers
pub mod Meant
pub mod Fits
pub mod TableLists
