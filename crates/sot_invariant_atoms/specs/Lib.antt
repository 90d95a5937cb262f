-- what the public contracts say
pub mod Asking
pub mod Greatest
pub mod Closed
-- what the functions inside the crate promise each other
pub mod Walking
