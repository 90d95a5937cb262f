-- what the public contracts say: which lines go on as traces of a flight, the tests that a line has
-- to pass, and what a replay answers
pub mod GoesOn
pub mod Tests
pub mod Replays
-- the laws, and worked lines
pub mod Laws
pub mod Examples
pub mod LineExamples
-- between the crate's own functions
pub mod Judges
pub mod Openings
pub mod Follows
