-- pure lists: lines that go on, and answers
pub mod BegunTraces
pub mod PassedTests
pub mod LinesGoOn
pub mod OneAnswer
pub mod Refusals
-- how a line is judged
pub mod FirstFailing
pub mod SameEntry
pub mod SpelledEntries
pub mod Judging
pub mod ReadOn
pub mod Narrow
pub mod Taken
pub mod Decisions
pub mod Inputs
pub mod Ticks
pub mod Drafts
pub mod Firings
-- how lines are followed
pub mod OpeningPlaces
pub mod Following
pub mod Answering
-- worked lines
pub mod RelayRules
pub mod RelayLines
pub mod RelayRefusals
pub mod LineHistory
pub mod LineTests
