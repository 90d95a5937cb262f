-- between the crate's own functions
pub mod Ends
pub mod Answers
pub mod Texts
pub mod Sides
pub mod Steps
pub mod Words
pub mod MissionHalves
pub mod Topics
pub mod Sends
pub mod SendLaws
pub mod Laws
