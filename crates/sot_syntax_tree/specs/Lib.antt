-- a program as it is written
pub mod Trees
pub mod TreeViews
pub mod Functions
-- what the grammar makes sure of
pub mod Formed
-- what the functions inside the crate promise each other
pub mod Letters
