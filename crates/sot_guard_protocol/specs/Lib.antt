-- what the public contracts say
pub mod Asides
pub mod Answers
pub mod Talks
pub mod Openings
pub mod TalkLaws
-- between the crate's own functions
pub mod DeskView
pub mod PlacesView
pub mod OpeningView
pub mod TalkView
