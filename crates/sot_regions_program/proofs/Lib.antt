-- what is looked at before regions are searched
pub mod Late
-- modules that no other plant concerns
pub mod Own
-- lists that grow
pub mod Boxes
-- regions that were found, and the tables with them
pub mod Fits
pub mod OtherTables
-- module after module
pub mod Searched
pub mod Padded
-- the mission that is written
pub mod Spelled
pub mod AsGiven
-- modules that have no region
pub mod NoRegions
-- how a call ends
pub mod Unique
pub mod Endings
-- what is said, from what was found
pub mod Forms
-- the program with what was found
pub mod Missions
