-- what the public contracts say
pub mod Answers
pub mod Meeting
pub mod Sets
-- between the crate's own functions
pub mod Near
pub mod Grounds
pub mod Tubes
pub mod Surveys
pub mod Chosen
pub mod Found
pub mod Blocks
pub mod Thinned
pub mod Entered
