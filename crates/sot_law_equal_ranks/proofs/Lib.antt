-- the boxes of tubes, and the landings of cells
pub mod Tubes
pub mod Parts
-- ranks, and what modules answer
pub mod Ranks
