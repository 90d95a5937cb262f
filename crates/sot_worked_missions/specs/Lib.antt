-- what the public contracts say
pub mod Line
pub mod Pair
pub mod Double
pub mod Divide
pub mod Broken
-- what they are made of
pub mod Parts
