-- the lines of a text, as they are lent
pub mod LentLines
-- numbers of 64 bits
pub mod Bits
-- what a line of a trace spells
pub mod Spelled
-- what is looked at of a spelled line
pub mod Shown
-- what room numbers take that are read
pub mod Room
-- what the public laws say
pub mod Laws
-- what the crate's own functions promise each other: how lines are read from their front, what is
-- kept of their numbers, and how the line of an entry is found
pub mod Pieces
pub mod Readers
pub mod Kept
pub mod Entries
