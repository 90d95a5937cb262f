-- what the public contracts say
pub mod Words
pub mod Lines
-- between the crate's own functions
pub mod Ends
pub mod Answers
pub mod AsAsked
pub mod Findings
pub mod Shown
pub mod Steps
