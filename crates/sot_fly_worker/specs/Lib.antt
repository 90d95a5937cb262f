-- what a controller tells, and which askings firings answer
pub mod Askings
pub mod Answers
-- what became of a shift
pub mod Shifts
pub mod Turns
-- laws on histories that go on
pub mod Laws
-- room for the drafts of a node
pub mod Rooms
-- what the functions inside the crate tell each other
pub mod Holds
pub mod Turned
