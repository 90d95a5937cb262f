-- lemmas on stated values, for what flies a flight too
pub mod Drawn
pub mod Jumps
pub mod Listed
pub mod Bounds
pub mod EightSlots
pub mod Fitting
-- lemmas on counts from the calendar
pub mod DueCounts
-- lemmas on reading
pub mod RowLists
pub mod NameLists
pub mod ForEach
pub mod Times
pub mod RangeLists
-- what was read fits the program
pub mod ReadForms
pub mod FoundLists
pub mod FlightFits
-- a flight with further inputs fits, and how they are merged
pub mod Relayed
pub mod Merging
