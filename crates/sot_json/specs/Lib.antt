-- what the public contracts say
pub mod Pointers
pub mod Says
pub mod Json
pub mod Answers
-- what the readers of parts promise
pub mod Parts
