-- what the public contracts say
pub mod RecoveryLaws
-- between the crate's own functions
pub mod GoingOn
pub mod Openings
pub mod Firings
pub mod TubeBoxes
pub mod Examples
pub mod Spring
pub mod Holds
pub mod Ranks
pub mod RunHolds
