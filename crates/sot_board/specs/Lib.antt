-- what a history of a flight is
pub mod Flown
-- what a history tells of a node and of a topic
pub mod Versions
-- what contracts see of a board, what its type keeps, and what its calls tell
pub mod Standing
pub mod Calls
-- room for what is still to come
pub mod Room
pub mod Counts
pub mod Firings
-- counts of topics by read slots
pub mod ReadCounts
-- what a view has
pub mod Views
-- what committing a view asks and answers
pub mod Commits
-- laws on views
pub mod Laws
-- a worked history
pub mod Examples
-- the board as it is kept
pub mod BoardView
