-- what bytes spell
pub mod Missions
-- what is written of it
pub mod Pieces
pub mod FaultTexts
pub mod RefusalTexts
pub mod AcceptedTexts
-- what the steps of loading promise each other
pub mod Loads
-- what the counts of cells rest on
pub mod Counts
-- worked texts
pub mod WorkedTexts
